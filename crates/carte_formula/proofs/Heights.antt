-- What is printed stands no deeper than the text that was read.
use Rattle.std.proofs.Common.{ℕ, pos, zero, suc, Bool, true, false, List, [], ◌∷◌, ◌++◌, length, take, ◌≡◌, ◌≤◌, ◌<◌, ◌==◌, slice_index, refl, append_assoc, arith}
use Rattle.std.proofs.lemmas.Bool.{lt-ltb, ltb-true}
use Rattle.std.proofs.lemmas.List.{append-nil}
use Rattle.carte_name.specs.Names.{is_upper}
use Rattle.carte_tree.specs.Tree.{rank, Tree, number, text, ref, neg, chain, call, Steps, no_step, step, Args, no_arg, arg, Arg, one, cells, Term, steps_of, args_of, is_if}
use Rattle.carte_formula.specs.Tokens.{Level, Func, Token, op, rpar, comma}
use Rattle.carte_formula.specs.Grammar.{Spells, unary, single, chained, Repeats, none, more, Unary, primary, negated, posited, Primary, a_number, a_text, a_word, a_cell, a_call, a_group, Argument, formula, range, Arguments, last, next}
use Rattle.carte_formula.specs.Reading.{dropped, Round, round_step, rounds, Shallow}
use Rattle.carte_formula.specs.Print.{name_by, bracketed, shown, steps_shown, args_shown, later_shown, arg_shown}
use Rattle.carte_tree.specs.Printed.{tight}
use Rattle.carte_formula.proofs.Again.{bare, Filled}

-- at no token, from a round on, stands more than 64 round what follows
abbrev Low : Round → List Token → Type 0
Low r [] = length r.by ≤ 64
Low r (t ∷ ts) = (length r.by ≤ 64) × Low (round_step r t) ts

abbrev in_round : List Bool → Round
in_round R = record { wanted = true; by = R }

abbrev out_round : List Bool → Round
out_round R = record { wanted = false; by = R }

-- a formula may stand, printed, at a depth; one deeper where it has a bracket
abbrev lifted : Bool → ℕ → ℕ
lifted true d = d
lifted false d = suc d

abbrev mutual
  AtDepth : ℕ → Tree → Type 0
  AtDepth d (number n) = d ≤ 64
  AtDepth d (text k) = d ≤ 64
  AtDepth d (ref k) = d ≤ 64
  AtDepth d (neg e) = AtDepth (lifted (tight 0 e) (suc d)) e
  AtDepth d (chain l e ss) = AtDepth (lifted (tight (rank l) e) d) e × StepsAt d l ss
  AtDepth d (call f xs) = (suc d ≤ 64) × ArgsAt (suc d) xs

  StepsAt : ℕ → Level → Steps → Type 0
  StepsAt d l no_step = Unit {0}
  StepsAt d l (step o e ss) = AtDepth (lifted (tight (rank l) e) d) e × StepsAt d l ss

  ArgsAt : ℕ → Args → Type 0
  ArgsAt d no_arg = Unit {0}
  ArgsAt d (arg x xs) = ArgAt d x × ArgsAt d xs

  ArgAt : ℕ → Arg → Type 0
  ArgAt d (one e) = AtDepth d e
  ArgAt d (cells a) = Unit {0}

lifted_low : (b : Bool) (d : ℕ) → lifted b d ≤ 64 → d ≤ 64
lifted_low true d h = h
lifted_low false d h = omega arith

at_most : (d : ℕ) (e : Tree) → AtDepth d e → d ≤ 64
at_most d (number n) h = h
at_most d (text k) h = h
at_most d (ref k) h = h
at_most d (neg e) h = let k : suc d ≤ 64 = lifted_low (tight 0 e) (suc d) (at_most (lifted (tight 0 e) (suc d)) e h) in omega arith
at_most d (chain l e ss) h = lifted_low (tight (rank l) e) d (at_most (lifted (tight (rank l) e) d) e h.0)
at_most d (call f xs) h = let k : suc d ≤ 64 = h.0 in omega arith

abbrev Rises : Tree → Type 0
Rises e = (d : ℕ) → AtDepth (suc d) e → AtDepth d e

higher_by : (b : Bool) (d : ℕ) (e : Tree) → Rises e → AtDepth (lifted b (suc d)) e → AtDepth (lifted b d) e
higher_by true d e go h = go d h
higher_by false d e go h = go (suc d) h

mutual
  higher : (e : Tree) → Rises e
  higher (number n) d h = omega arith
  higher (text k) d h = omega arith
  higher (ref k) d h = omega arith
  higher (neg e) d h = higher_by (tight 0 e) (suc d) e (λ m k. higher e m k) h
  higher (chain l e ss) d h = (higher_by (tight (rank l) e) d e (λ m k. higher e m k) h.0, higher_steps ss l d h.1)
  higher (call f xs) d h = ((let k : suc (suc d) ≤ 64 = h.0 in omega arith), higher_args xs (suc d) h.1)

  higher_steps : (ss : Steps) (l : Level) (d : ℕ) → StepsAt (suc d) l ss → StepsAt d l ss
  higher_steps no_step l d h = tt
  higher_steps (step o e ss) l d h = (higher_by (tight (rank l) e) d e (λ m k. higher e m k) h.0, higher_steps ss l d h.1)

  higher_args : (xs : Args) (d : ℕ) → ArgsAt (suc d) xs → ArgsAt d xs
  higher_args no_arg d h = tt
  higher_args (arg x xs) d h = (higher_arg x d h.0, higher_args xs d h.1)

  higher_arg : (x : Arg) (d : ℕ) → ArgAt (suc d) x → ArgAt d x
  higher_arg (one e) d h = higher e d h
  higher_arg (cells a) d h = h

-- where a chain may stand without a bracket: behind no sign
abbrev Open : Tree → List Bool → Type 0
Open (chain l e ss) R = dropped R ≡ R
Open _ R = Unit {0}

abbrev LowShown : Tree → Type 0
LowShown e = (R : List Bool) (rest : List Token) → Open e R → AtDepth (length R) e → Low (out_round (dropped R)) rest → Low (in_round R) (shown e ++ rest)

low_held : (b : Bool) (e : Tree) (R : List Bool) (rest : List Token) → LowShown e → (b ≡ true → Open e R) → AtDepth (lifted b (length R)) e → Low (out_round (dropped R)) rest
    → Low (in_round R) (bracketed b (shown e) ++ rest)
low_held true e R rest go o h low = go R rest (o refl) h low
low_held false e R rest go o h low =
    let k : suc (length R) ≤ 64 = at_most (suc (length R)) e h in
    rw (append_assoc (shown e) (rpar ∷ []) rest) ((omega arith), go (false ∷ R) (rpar ∷ rest) (brackets e R) h ((omega arith), low))
  where
    brackets : (e : Tree) (R : List Bool) → Open e (false ∷ R)
    brackets (chain l e ss) R = refl
    brackets _ R = tt

-- a formula that isn't a chain may stand anywhere, and in a chain's place there is no sign
open_tight : (n : ℕ) (e : Tree) (R : List Bool) → dropped R ≡ R → tight n e ≡ true → Open e R
open_tight n (chain l e ss) R is h = is
open_tight n _ R is h = tt

open_signed : (e : Tree) (R : List Bool) → tight 0 e ≡ true → Open e R
open_signed (chain l e ss) R h = absurd (let k : rank l < 0 = ltb-true (rank l) 0 h in let z : ⊥ = omega arith in z)
open_signed _ R h = tt

open_one : (e : Tree) (R : List Bool) → Open e (false ∷ R)
open_one (chain l e ss) R = refl
open_one _ R = tt

low_name : (b : Bool) (k : List ℕ) (R : List Bool) (rest : List Token) → length R ≤ 64 → Low (out_round (dropped R)) rest → Low (in_round R) (name_by b k ∷ rest)
low_name true k R rest h low = (h, low)
low_name false k R rest h low = (h, low)

mutual
  low_shown : (e : Tree) → LowShown e
  low_shown (number n) R rest o h low = (h, low)
  low_shown (text k) R rest o h low = (h, low)
  low_shown (ref k) R rest o h low = low_name (is_upper (slice_index k 0)) k R rest h low
  low_shown (neg e) R rest o h low =
      let k : suc (length R) ≤ 64 = lifted_low (tight 0 e) (suc (length R)) (at_most (lifted (tight 0 e) (suc (length R))) e h) in
      ((omega arith), low_held (tight 0 e) e (true ∷ R) rest (low_shown e) (open_signed e (true ∷ R)) h low)
  low_shown (chain l e ss) R rest o h low =
      rw (append_assoc (bracketed (tight (rank l) e) (shown e)) (steps_shown l ss) rest)
      (low_held (tight (rank l) e) e R (steps_shown l ss ++ rest) (low_shown e) (open_tight (rank l) e R o) h.0
      (rw o (low_steps ss l R rest o h.1 (lifted_low (tight (rank l) e) (length R) (at_most (lifted (tight (rank l) e) (length R)) e h.0)) (rw o at low))))
  low_shown (call f xs) R rest o h low =
      let k : suc (length R) ≤ 64 = h.0 in
      rw (append_assoc (args_shown xs) (rpar ∷ []) rest) ((omega arith), ((omega arith), low_args xs R rest h.1 h.0 low))

  low_steps : (ss : Steps) (l : Level) (R : List Bool) (rest : List Token) → dropped R ≡ R → StepsAt (length R) l ss → length R ≤ 64 → Low (out_round R) rest → Low (out_round R) (steps_shown l ss ++ rest)
  low_steps no_step l R rest o h k low = low
  low_steps (step x e ss) l R rest o h k low = (
    k,
    rw (append_assoc (bracketed (tight (rank l) e) (shown e)) (steps_shown l ss) rest)
        (low_held (tight (rank l) e) e R (steps_shown l ss ++ rest) (low_shown e) (open_tight (rank l) e R o) h.0 (rw o (low_steps ss l R rest o h.1 k low))),
  )

  low_args : (xs : Args) (R : List Bool) (rest : List Token) → ArgsAt (suc (length R)) xs → suc (length R) ≤ 64 → Low (out_round (dropped R)) rest → Low (in_round (false ∷ R)) (args_shown xs ++ rpar ∷ rest)
  low_args no_arg R rest h k low = (k, low)
  low_args (arg x xs) R rest h k low = rw (append_assoc (arg_shown x) (later_shown xs) (rpar ∷ rest)) (low_arg x R (later_shown xs ++ rpar ∷ rest) h.0 k (low_later xs R (rpar ∷ rest) h.1 k (k, low)))

  low_later : (xs : Args) (R : List Bool) (rest : List Token) → ArgsAt (suc (length R)) xs → suc (length R) ≤ 64 → Low (out_round (false ∷ R)) rest → Low (out_round (false ∷ R)) (later_shown xs ++ rest)
  low_later no_arg R rest h k low = low
  low_later (arg x xs) R rest h k low = (k, rw (append_assoc (arg_shown x) (later_shown xs) rest) (low_arg x R (later_shown xs ++ rest) h.0 k (low_later xs R rest h.1 k low)))

  low_arg : (x : Arg) (R : List Bool) (rest : List Token) → ArgAt (suc (length R)) x → suc (length R) ≤ 64 → Low (out_round (false ∷ R)) rest → Low (in_round (false ∷ R)) (arg_shown x ++ rest)
  low_arg (one e) R rest h k low = low_shown e (false ∷ R) rest (open_one e R) h low
  low_arg (cells a) R rest h k low = (k, (k, (k, low)))

-- a text's formula may stand, printed, where its text stands
abbrev NoSign : ℕ → List Bool → Type 0
NoSign zero R = Unit {0}
NoSign (suc n) R = dropped R ≡ R

no_sign_less : (n : ℕ) (R : List Bool) → NoSign (suc n) R → NoSign n R
no_sign_less zero R h = tt
no_sign_less (suc n) R h = h

abbrev Stays : List Token → Tree → ℕ → List Bool → List Token → Type 0
Stays ts e m R rest = Low (in_round R) (ts ++ rest) → AtDepth (lifted (tight m e) (length R)) e × Low (out_round (dropped R)) rest

at_lifted : (b : Bool) (d : ℕ) (e : Tree) → AtDepth (suc d) e → AtDepth (lifted b d) e
at_lifted true d e h = higher e d h
at_lifted false d e h = h

args_more : (d : ℕ) (xs : List Arg) (x : Arg) → ArgsAt d (args_of xs) → ArgAt d x → ArgsAt d (args_of (xs ++ x ∷ []))
args_more d [] x h k = (k, tt)
args_more d (y ∷ xs) x h k = (h.0, args_more d xs x h.1 k)

filled_at : (a b : Bool) (f : Func) (d : ℕ) (xs : List Arg) → ArgsAt d (args_of xs) → d ≤ 64 → ArgsAt d (args_of (Filled f a b xs))
filled_at true true f d xs h k = args_more d xs (one (number (pos 0))) h k
filled_at true false f d xs h k = h
filled_at false b f d xs h k = h

chain_tight : (l : Level) (m : ℕ) (e : Tree) (ss : Steps) (d : ℕ) → suc (rank l) ≤ m → AtDepth d (chain l e ss) → AtDepth (lifted (tight m (chain l e ss)) d) (chain l e ss)
chain_tight l m e ss d h k = rw (lt-ltb (rank l) m h) k

quiet_any : (n : ℕ) (R : List Bool) → dropped R ≡ R → NoSign n R
quiet_any zero R h = tt
quiet_any (suc n) R h = h

open_start : (e : Tree) → Open e []
open_start (chain l e ss) = refl
open_start _ = tt

mutual
  pub tall : {n : ℕ} {ts : List Token} {e : Tree} → Spells n ts e → (m : ℕ) (R : List Bool) (rest : List Token) → n ≤ m → NoSign n R → Stays ts e m R rest
  tall (unary u) m R rest le o low = tall_unary u m R rest low
  tall (single {n} x) m R rest le o low = tall x m R rest (omega arith) (no_sign_less n R o) low
  tall (chained {l} {ts} {us} {vs} {e} {d} {ss} x o is y r) m R rest le quiet low =
      let a : AtDepth (lifted (tight (rank l) e) (length R)) e × Low (out_round (dropped R)) (op o ∷ ((us ++ vs) ++ rest)) =
      tall x (rank l) R (op o ∷ ((us ++ vs) ++ rest)) (omega arith) (no_sign_less (rank l) R quiet) (rw (append_assoc ts (op o ∷ (us ++ vs)) rest) at low) in
      let b : AtDepth (lifted (tight (rank l) d) (length R)) d × Low (out_round (dropped R)) (vs ++ rest) =
      tall y (rank l) R (vs ++ rest) (omega arith) (no_sign_less (rank l) R quiet) (rw (quiet, append_assoc us vs rest) at a.1.1) in
      let c : StepsAt (length R) l (steps_of ss) × Low (out_round R) rest = tall_repeats r R rest quiet (rw quiet at b.1) in
      (chain_tight l m e (step o d (steps_of ss)) (length R) le (a.0, (b.0, c.0)), rw quiet c.1)

  tall_repeats : {l : Level} {vs : List Token} {ss : List Term} → Repeats l vs ss → (R : List Bool) (rest : List Token) → dropped R ≡ R → Low (out_round R) (vs ++ rest) → StepsAt (length R) l (steps_of ss) × Low (out_round R) rest
  tall_repeats none R rest quiet low = (tt, low)
  tall_repeats {l} (more {us = us} {vs = vs} {d = d} {ss = ss} o is y r) R rest quiet low =
      let b : AtDepth (lifted (tight (rank l) d) (length R)) d × Low (out_round (dropped R)) (vs ++ rest) =
      tall y (rank l) R (vs ++ rest) (omega arith) (quiet_any (rank l) R quiet) (rw (append_assoc us vs rest) at low.1) in
      let c : StepsAt (length R) l (steps_of ss) × Low (out_round R) rest = tall_repeats r R rest quiet (rw quiet at b.1) in
      ((b.0, c.0), c.1)

  tall_unary : {ts : List Token} {e : Tree} → Unary ts e → (m : ℕ) (R : List Bool) (rest : List Token) → Stays ts e m R rest
  tall_unary (primary p) m R rest low = tall_primary p m R rest low
  tall_unary (negated u) m R rest low = tall_unary u 0 (true ∷ R) rest low.1
  tall_unary (posited {e = e} u) m R rest low =
      let a = tall_unary u m (true ∷ R) rest low.1 in (higher_by (tight m e) (length R) e (λ d h. higher e d h) a.0, a.1)

  tall_primary : {ts : List Token} {e : Tree} → Primary ts e → (m : ℕ) (R : List Bool) (rest : List Token) → Stays ts e m R rest
  tall_primary (a_number n) m R rest low = low
  tall_primary (a_text k) m R rest low = low
  tall_primary (a_word k) m R rest low = low
  tall_primary (a_cell k) m R rest low = low
  tall_primary (a_group {ts} {e} x) m R rest low =
      let a : AtDepth (lifted (tight 4 e) (suc (length R))) e × Low (out_round (false ∷ R)) (rpar ∷ rest) = tall x 4 (false ∷ R) (rpar ∷ rest) (omega arith) refl (rw (append_assoc ts (rpar ∷ []) rest) at low.1) in
      (at_lifted (tight m e) (length R) e (rw (bare e) at a.0), a.1.1)
  tall_primary (a_call {f} {ts} {xs} x c) m R rest low =
      let a : ArgsAt (suc (length R)) (args_of xs) × Low (out_round (false ∷ R)) (rpar ∷ rest) = tall_arguments x R (rpar ∷ rest) (rw (append_assoc ts (rpar ∷ []) rest) at low.1.1) in
      let k : suc (length R) ≤ 64 = a.1.0 in
      ((k, filled_at (is_if f) (length xs == 2) f (suc (length R)) xs a.0 k), a.1.1)

  tall_argument : {f : Func} {ts : List Token} {x : Arg} → Argument f ts x → (R : List Bool) (rest : List Token) → Low (in_round (false ∷ R)) (ts ++ rest) → ArgAt (suc (length R)) x × Low (out_round (false ∷ R)) rest
  tall_argument (formula {e = e} s) R rest low =
      let a : AtDepth (lifted (tight 4 e) (suc (length R))) e × Low (out_round (false ∷ R)) rest = tall s 4 (false ∷ R) rest (omega arith) refl low in (rw (bare e) at a.0, a.1)
  tall_argument (range is a b) R rest low = (tt, low.1.1.1)

  tall_arguments : {f : Func} {ts : List Token} {xs : List Arg} → Arguments f ts xs → (R : List Bool) (rest : List Token) → Low (in_round (false ∷ R)) (ts ++ rest) → ArgsAt (suc (length R)) (args_of xs) × Low (out_round (false ∷ R)) rest
  tall_arguments (last h) R rest low = let a = tall_argument h R rest low in ((a.0, tt), a.1)
  tall_arguments (next {ts = ts} {us = us} {x = x} {xs = xs} h others) R rest low =
      let a : ArgAt (suc (length R)) x × Low (out_round (false ∷ R)) (comma ∷ (us ++ rest)) = tall_argument h R (comma ∷ (us ++ rest)) (rw (append_assoc ts (comma ∷ us) rest) at low) in
      let b : ArgsAt (suc (length R)) (args_of xs) × Low (out_round (false ∷ R)) rest = tall_arguments others R rest a.1.1 in
      ((a.0, b.0), b.1)

-- shallow tokens are low, and low ones shallow
low_of : (ts : List Token) (r : Round) → ((k : ℕ) → length (rounds r (take k ts)).by ≤ 64) → Low r ts
low_of [] r h = h 0
low_of (t ∷ ts) r h = (h 0, low_of ts (round_step r t) (λ k. h (suc k)))

shallow_of : (ts : List Token) (r : Round) → Low r ts → (k : ℕ) → length (rounds r (take k ts)).by ≤ 64
shallow_of [] r h zero = h
shallow_of [] r h (suc k) = h
shallow_of (t ∷ ts) r h zero = h.0
shallow_of (t ∷ ts) r h (suc k) = shallow_of ts (round_step r t) h.1 k

pub shown_shallow : {ts : List Token} {e : Tree} → Spells 4 ts e → Shallow ts → Shallow (shown e)
shown_shallow {ts} {e} h low =
    let a : AtDepth (lifted (tight 4 e) 0) e × Low (out_round []) [] = tall h 4 [] [] (omega arith) refl (rw append-nil (low_of ts (in_round []) low)) in
    shallow_of (shown e) (in_round []) (rw append-nil at (low_shown e [] [] (open_start e) (rw (bare e) at a.0) (omega arith)))
