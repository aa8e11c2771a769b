-- Tokens are read in one way only.
use Rattle.std.proofs.Common.{ℕ, List, [], ◌∷◌, ◌++◌, length, take, ◌≡◌, ◌≤◌, ◌<◌, ◌+◌, Option, Some, None, Result, Ok, Err, refl, sym, ◌∙◌, ap, append_assoc, length-append, arith}
use Rattle.std.proofs.lemmas.Bool.{le-ltb, lt-ltb}
use Rattle.std.proofs.lemmas.List.{append-nil, take-append-le, take_all}
use Rattle.carte_tree.specs.Tree.{Tree}
use Rattle.carte_formula.specs.Tokens.{Token, Placed, tokens_of}
use Rattle.carte_formula.specs.Grammar.{Spells, Viable}
use Rattle.carte_formula.specs.Machine.{State, wants, next_state, end_of, parsed, moved, with}
use Rattle.carte_formula.specs.Reading.{FormulaFault, BadToken, BadSyntax, TooDeep, TooLong, TooWide, NoMemory, around, Shallow, SyntaxAt, DeepAt, ReadAs, depth, or_syntax, deeper, tokens_read}
use Rattle.carte_formula.proofs.Complete.{complete}
use Rattle.carte_formula.proofs.Sound.{sound}
use Rattle.carte_formula.proofs.Viable.{viable, stuck}
use Rattle.carte_formula.proofs.Faults.{Reached, reached_on, around_is, rest_none, stuck_on}

-- the state that some tokens lead to, if they lead to one
abbrev Led : List Token → Type 0
Led ts = (s : State) × (moved (wants []) ts ≡ Some s)

led : (o : Option State) (ts : List Token) → moved (wants []) ts ≡ o → Viable ts → Led ts
led None ts is v = absurd (stuck ts is v)
led (Some s) ts is v = (s, is)

around_next : (done ts : List Token) (t : Token) → Shallow (done ++ (t ∷ ts)) → around (done ++ t ∷ []) ≤ 64
around_next done ts t low =
    let long : length (done ++ t ∷ []) ≤ length done + 1 = simp length-append (omega arith) in
    let h : take (length done + 1) (done ++ (t ∷ ts)) ≡ done ++ t ∷ [] =
    rw (← append_assoc done (t ∷ []) ts, take-append-le (length done + 1) (done ++ t ∷ []) ts (simp length-append (omega arith))) (take_all (length done + 1) (done ++ t ∷ []) long) in
    rw h at (low (length done + 1))

abbrev Walks : State → State → List Token → List Placed → List Placed → ℕ → Type 0
Walks u s done prefix rest size = Reached u done → moved u (tokens_of prefix) ≡ Some s → Shallow (done ++ tokens_of prefix) → tokens_read u (prefix ++ rest) size ≡ tokens_read s rest size

walk_on : (o : Option State) (p : Placed) (prefix rest : List Placed) (w s : State) (done : List Token) (size : ℕ) → next_state w p.token ≡ o → Reached w done
    → with o (λ u. moved u (tokens_of prefix)) ≡ Some s → Shallow (done ++ (p.token ∷ tokens_of prefix)) → ((u : State) → Walks u s (done ++ p.token ∷ []) prefix rest size)
    → deeper o p.place (λ u. tokens_read u (prefix ++ rest) size) ≡ tokens_read s rest size
walk_on None p prefix rest w s done size is r m low go = absurd (let z : ⊥ = cc in z)
walk_on (Some u) p prefix rest w s done size is r m low go =
    let q : Reached u (done ++ p.token ∷ []) = reached_on w u done p.token r is in
    let d : around (done ++ p.token ∷ []) ≡ depth u = around_is u (done ++ p.token ∷ []) q in
    let l : around (done ++ p.token ∷ []) ≤ 64 = around_next done (tokens_of prefix) p.token low in
    rw (le-ltb 64 (depth u) (omega arith)) (go u q m (rw append_assoc low))

-- reading goes along tokens that lead somewhere and are nowhere too deep
walk : (prefix rest : List Placed) (w s : State) (done : List Token) (size : ℕ) → Walks w s done prefix rest size
walk [] rest w s done size r m low = let h : w ≡ s = cc in ap (λ x. tokens_read x rest size) h
walk (p ∷ prefix) rest w s done size r m low = walk_on (next_state w p.token) p prefix rest w s done size refl r m low (λ u. walk prefix rest u s (done ++ p.token ∷ []) size)

reached : (prefix : List Placed) (w s : State) (done : List Token) → Reached w done → moved w (tokens_of prefix) ≡ Some s → Reached s (done ++ tokens_of prefix)
reached [] w s done r m = let h : w ≡ s = cc in rw append-nil (rw h at r)
reached (p ∷ prefix) w s done r m = reached_with (next_state w p.token) p prefix w s done r refl m (λ u q k. reached prefix u s (done ++ p.token ∷ []) q k)
  where
    reached_with : (o : Option State) (p : Placed) (prefix : List Placed) (w s : State) (done : List Token) → Reached w done → next_state w p.token ≡ o → with o (λ u. moved u (tokens_of prefix)) ≡ Some s
        → ((u : State) → Reached u (done ++ p.token ∷ []) → moved u (tokens_of prefix) ≡ Some s → Reached s ((done ++ p.token ∷ []) ++ tokens_of prefix)) → Reached s (done ++ (p.token ∷ tokens_of prefix))
    reached_with None p prefix w s done r is m go = absurd (let z : ⊥ = cc in z)
    reached_with (Some u) p prefix w s done r is m go = rw append_assoc at (go u (reached_on w u done p.token r is) m)

from_start : (prefix rest : List Placed) (s : State) (size : ℕ) → moved (wants []) (tokens_of prefix) ≡ Some s → Shallow (tokens_of prefix) → tokens_read (wants []) (prefix ++ rest) size ≡ tokens_read s rest size
from_start prefix rest s size m low = walk prefix rest (wants []) s [] size (refl, refl, refl) m low

reached_start : (prefix : List Placed) (s : State) → moved (wants []) (tokens_of prefix) ≡ Some s → Reached s (tokens_of prefix)
reached_start prefix s m = reached prefix (wants []) s [] (refl, refl, refl) m

ends_too_early : (o : Option Tree) (prefix : List Placed) (s : State) (size : ℕ) → end_of s ≡ o → moved (wants []) (tokens_of prefix) ≡ Some s → ((e : Tree) → Spells 4 (tokens_of prefix) e → ⊥) → or_syntax o size ≡ Err (BadSyntax size)
ends_too_early None prefix s size is m never = refl
ends_too_early (Some e) prefix s size is m never = absurd (never e (sound (tokens_of prefix) e (rest_none s (tokens_of prefix) m ∙ is)))

bad_token_here : (o : Option State) (prefix ps : List Placed) (p : Placed) (s : State) (size : ℕ) → next_state s p.token ≡ o → Reached s (tokens_of prefix) → (Viable (tokens_of prefix ++ p.token ∷ []) → ⊥)
    → deeper o p.place (λ u. tokens_read u ps size) ≡ Err (BadSyntax p.place)
bad_token_here None prefix ps p s size is r never = refl
bad_token_here (Some u) prefix ps p s size is r never = absurd (never (viable (tokens_of prefix ++ p.token ∷ []) u (reached_on s u (tokens_of prefix) p.token r is).0))

too_deep_here : (o : Option State) (prefix ps : List Placed) (p : Placed) (s : State) (size : ℕ) → next_state s p.token ≡ o → Reached s (tokens_of prefix) → Viable (tokens_of prefix ++ p.token ∷ [])
    → 64 < around (tokens_of prefix ++ p.token ∷ []) → deeper o p.place (λ u. tokens_read u ps size) ≡ Err (TooDeep p.place)
too_deep_here None prefix ps p s size is r v deep = absurd (stuck (tokens_of prefix ++ p.token ∷ []) (stuck_on s (tokens_of prefix) p.token (wants []) r.0 is) v)
too_deep_here (Some u) prefix ps p s size is r v deep =
    let q : around (tokens_of prefix ++ p.token ∷ []) ≡ depth u = around_is u (tokens_of prefix ++ p.token ∷ []) (reached_on s u (tokens_of prefix) p.token r is) in
    rw (lt-ltb 64 (depth u) (omega arith)) refl

whole_led : (ps : List Placed) (e : Tree) (size : ℕ) → Led (tokens_of ps) → Spells 4 (tokens_of ps) e → Shallow (tokens_of ps) → tokens_read (wants []) ps size ≡ Ok e
whole_led ps e size (s, m) h low =
    let k : tokens_read (wants []) (ps ++ []) size ≡ tokens_read s [] size = from_start ps [] s size m low in
    let p : parsed (wants []) (tokens_of ps) ≡ Some e = complete h in
    let q : end_of s ≡ Some e = sym (rest_none s (tokens_of ps) m) ∙ p in
    (rw append-nil at k) ∙ (rw q refl)

syntax_led : (prefix rest : List Placed) (size place : ℕ) → Led (tokens_of prefix) → Shallow (tokens_of prefix) → SyntaxAt prefix rest size place → tokens_read (wants []) (prefix ++ rest) size ≡ Err (BadSyntax place)
syntax_led prefix [] size place (s, m) low (is, never) = from_start prefix [] s size m low ∙ ends_too_early (end_of s) prefix s size refl m never ∙ ap (λ x. Err (BadSyntax x)) (sym is)
syntax_led prefix (p ∷ ps) size place (s, m) low (is, never) =
    from_start prefix (p ∷ ps) s size m low ∙ bad_token_here (next_state s p.token) prefix ps p s size refl (reached_start prefix s m) never ∙ ap (λ x. Err (BadSyntax x)) (sym is)

deep_led : (prefix rest : List Placed) (size place : ℕ) → Led (tokens_of prefix) → Shallow (tokens_of prefix) → DeepAt prefix rest place → tokens_read (wants []) (prefix ++ rest) size ≡ Err (TooDeep place)
deep_led prefix [] size place l low d = absurd d
deep_led prefix (p ∷ ps) size place (s, m) low (is, v, deep) =
    from_start prefix (p ∷ ps) s size m low ∙ too_deep_here (next_state s p.token) prefix ps p s size refl (reached_start prefix s m) v deep ∙ ap (λ x. Err (TooDeep x)) (sym is)

viable_prefix : (prefix : List Token) (t : Token) → Viable (prefix ++ t ∷ []) → Viable prefix
viable_prefix prefix t (rest, e, h) = (t ∷ rest, e, rw append_assoc at h)

led_prefix : (prefix rest : List Placed) (place : ℕ) → DeepAt prefix rest place → Led (tokens_of prefix)
led_prefix prefix [] place d = absurd d
led_prefix prefix (p ∷ ps) place d = led (moved (wants []) (tokens_of prefix)) (tokens_of prefix) refl (viable_prefix (tokens_of prefix) p.token d.1)

-- what tokens are read as by the grammar is what the machine reads
pub read_so : (ps : List Placed) (size : ℕ) (r : Result Tree FormulaFault) → ReadAs ps size r → tokens_read (wants []) ps size ≡ r
read_so ps size (Ok e) (h, low) = whole_led ps e size (led (moved (wants []) (tokens_of ps)) (tokens_of ps) refl ([], e, rw append-nil h)) h low
read_so ps size (Err (BadSyntax place)) (prefix, rest, is, v, low, at) = rw is (syntax_led prefix rest size place (led (moved (wants []) (tokens_of prefix)) (tokens_of prefix) refl v) low at)
read_so ps size (Err (TooDeep place)) (prefix, rest, is, low, at) = rw is (deep_led prefix rest size place (led_prefix prefix rest place at) low at)
read_so ps size (Err (BadToken place)) h = absurd h
read_so ps size (Err (TooLong place)) h = absurd h
read_so ps size (Err (TooWide place)) h = absurd h
read_so ps size (Err NoMemory) h = absurd h
