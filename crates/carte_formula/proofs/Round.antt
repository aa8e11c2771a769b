-- A text is read in one way, and what is printed is read again as it was.
use Rattle.std.proofs.Common.{ℕ, Bool, true, false, List, [], length, Option, Some, None, ◌≡◌, ◌≤◌, ◌+◌, Result, Ok, Err, if◌then◌else◌, refl, sym, ◌∙◌, ap, arith, nat_lt}
use Rattle.std.proofs.lemmas.Bool.{le-ltb, lt-ltb, ltb-true, ltb-false}
use Rattle.carte_name.specs.declared.kind.Kind.{Kind}
use Rattle.carte_tree.specs.Tree.{Tree}
use Rattle.carte_formula.specs.Grammar.{Spells}
use Rattle.carte_formula.specs.Machine.{wants}
use Rattle.carte_formula.specs.Reading.{FormulaFault, BadToken, BadSyntax, TooDeep, TooLong, TooWide, NoMemory, ReadAs, tokens_read}
use Rattle.carte_formula.specs.Tokens.{Placed, tokens_of}
use Rattle.carte_formula.specs.Print.{shown}
use Rattle.carte_lexer.specs.Kinds.{AllOfKind}
use Rattle.carte_lexer.specs.Lexer.{idle, lexed, text_of}
use Rattle.carte_tree.specs.Printed.{printed}
use Rattle.carte_formula.specs.Whole.{IsTold, with_width, with_tokens, reading, Tokens, SpelledBy, Reads}
use Rattle.carte_lexer.specs.Widths.{width, wide_from}
use Rattle.carte_formula.proofs.Complete.{complete}
use Rattle.carte_formula.proofs.Viable.{one_tree}
use Rattle.carte_formula.proofs.Faults.{reads}
use Rattle.carte_formula.proofs.Readings.{read_so}
use Rattle.carte_formula.proofs.ReadWhole.{of_tokens}
use Rattle.carte_formula.proofs.Again.{again, bare}
use Rattle.carte_formula.proofs.ShownKind.{shown_kind}
use Rattle.carte_formula.proofs.Heights.{shown_shallow}
use Rattle.carte_formula.proofs.Widths.{same_width, narrow, not_wide}
use Rattle.carte_formula.proofs.Clear.{all_clear}
use Rattle.carte_lexer.proofs.Lexing.{lexes}
use Rattle.carte_lexer.proofs.Lexed.{lexed_kind}
use Rattle.carte_formula.proofs.Texts.{printed_shown}

short_read : (q : Kind) (bytes : List ℕ) → length bytes ≤ 4096 → reading q bytes ≡ with_tokens (lexed q idle 0 bytes) (length bytes)
short_read q bytes h = rw (le-ltb 4096 (length bytes) h) refl

-- in no other way, unless there is no memory
told : (q : Kind) (bytes : List ℕ) (r : Result Tree FormulaFault) → Reads q bytes r → IsTold r → reading q bytes ≡ r
told q bytes (Ok e) (low, ps, is, r, w) t = short_read q bytes low ∙ ap (λ x. with_tokens x (length bytes)) is ∙ ap (λ x. with_width x (wide_from 0 ps)) (read_so ps (length bytes) (Ok e) r) ∙ ap (λ x. with_width (Ok e) x) w
told q bytes (Err (TooLong n)) (more, is) t = rw (lt-ltb 4096 (length bytes) more, is) refl
told q bytes (Err (BadToken place)) (low, is) t = short_read q bytes low ∙ ap (λ x. with_tokens x (length bytes)) is
told q bytes (Err (BadSyntax place)) (low, ps, is, r) t = short_read q bytes low ∙ ap (λ x. with_tokens x (length bytes)) is ∙ ap (λ x. with_width x (wide_from 0 ps)) (read_so ps (length bytes) (Err (BadSyntax place)) r)
told q bytes (Err (TooDeep place)) (low, ps, is, r) t = short_read q bytes low ∙ ap (λ x. with_tokens x (length bytes)) is ∙ ap (λ x. with_width x (wide_from 0 ps)) (read_so ps (length bytes) (Err (TooDeep place)) r)
told q bytes (Err (TooWide place)) (low, ps, is, e, r, w) t = short_read q bytes low ∙ ap (λ x. with_tokens x (length bytes)) is ∙ ap (λ x. with_width x (wide_from 0 ps)) (read_so ps (length bytes) (Ok e) r) ∙ ap (λ x. with_width (Ok e) x) w
told q bytes (Err NoMemory) h t = absurd t

pub only_reading : (q : Kind) (bytes : List ℕ) (r : Result Tree FormulaFault) → Reads q bytes r → IsTold r → r ≡ reading q bytes
only_reading q bytes r h t = sym (told q bytes r h t)

-- and so each text is read
reads_by : (long : Bool) (q : Kind) (bytes : List ℕ) → nat_lt 4096 (length bytes) ≡ long → Reads q bytes (if long then Err (TooLong (length bytes)) else with_tokens (lexed q idle 0 bytes) (length bytes))
reads_by true q bytes is = (ltb-true 4096 (length bytes) is, refl)
reads_by false q bytes is = of_tokens q bytes (lexed q idle 0 bytes) (ltb-false 4096 (length bytes) is) refl

pub reads_reading : (q : Kind) (bytes : List ℕ) → Reads q bytes (reading q bytes)
reads_reading q bytes = reads_by (nat_lt 4096 (length bytes)) q bytes refl

told_width : (ps : List Placed) (size : ℕ) (r : Result Tree FormulaFault) (w : Option ℕ) → ReadAs ps size r → IsTold (with_width r w)
told_width ps size (Ok e) None h = tt
told_width ps size (Ok e) (Some place) h = tt
told_width ps size (Err (BadSyntax place)) w h = tt
told_width ps size (Err (TooDeep place)) w h = tt
told_width ps size (Err (BadToken place)) w h = tt
told_width ps size (Err (TooLong place)) w h = tt
told_width ps size (Err (TooWide place)) w h = tt
told_width ps size (Err NoMemory) w h = absurd h

told_tokens : (r : Result (List Placed) ℕ) (size : ℕ) → IsTold (with_tokens r size)
told_tokens (Err place) size = tt
told_tokens (Ok ps) size = told_width ps size (tokens_read (wants []) ps size) (wide_from 0 ps) (reads ps size)

told_by : (long : Bool) (q : Kind) (bytes : List ℕ) → IsTold (if long then Err (TooLong (length bytes)) else with_tokens (lexed q idle 0 bytes) (length bytes))
told_by true q bytes = tt
told_by false q bytes = told_tokens (lexed q idle 0 bytes) (length bytes)

pub told_reading : (q : Kind) (bytes : List ℕ) → IsTold (reading q bytes)
told_reading q bytes = told_by (nat_lt 4096 (length bytes)) q bytes

-- a text is read in one way at most
pub one_reading : (q : Kind) (bytes : List ℕ) (r s : Result Tree FormulaFault) → Reads q bytes r → Reads q bytes s → IsTold r → IsTold s → r ≡ s
one_reading q bytes r s h k t u = sym (told q bytes r h t) ∙ told q bytes s k u

same_tokens : (q : Kind) (bytes : List ℕ) (ps qs : List Placed) → Tokens q bytes ps → Tokens q bytes qs → ps ≡ qs
same_tokens q bytes ps qs h k = let e : ◌≡◌ {A = Result (List Placed) ℕ} (Ok ps) (Ok qs) = sym h ∙ k in cc

-- and spells one formula at most
pub one_spelt : (q : Kind) (bytes : List ℕ) (d e : Tree) → SpelledBy q bytes d → SpelledBy q bytes e → d ≡ e
one_spelt q bytes d e (ps, is, h) (qs, js, k) = let t : ps ≡ qs = same_tokens q bytes ps qs is js in one_tree h (rw (← t) at k)

-- what is printed of a formula that was read is read as this formula
pub read_again : (q : Kind) (bytes : List ℕ) (e : Tree) → Reads q bytes (Ok e) → length (printed e) ≤ 4096 → Reads q (printed e) (Ok e)
read_again q bytes e (low, ps, is, (spells, shallow), narrow0) short =
    let kind : AllOfKind q (tokens_of ps) = lexed_kind q bytes ps is in
    let s : Spells 4 (shown e) e = rw (bare e) at (again q spells kind 4) in
    let g = lexes q (shown e) (shown_kind q spells kind) (all_clear (wants []) (shown e) e (complete s)) 0 in
    let w : 0 + width (tokens_of ps) ≤ 65536 = narrow 0 ps narrow0 (omega arith) in
    let v : width (tokens_of ps) ≡ width (shown e) = same_width spells s in
    let t : printed e ≡ text_of (shown e) = printed_shown e in
    (short, g.0, (rw t g.1), (rw g.2 s, rw g.2 (shown_shallow spells shallow)), not_wide 0 g.0 (rw g.2 (omega arith)))
