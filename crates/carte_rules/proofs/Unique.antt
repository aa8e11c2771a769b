-- Bytes have one outcome at most, and it is none of memory.
use Rattle.std.proofs.Common.{ℕ, List, ◌≡◌, Result, Ok, Err, sym, ◌∙◌, ap, subst}
use Rattle.std.specs.FinMap.{insert, empty}
use Rattle.toml.specs.Data.{Data, Members, no_members, member}
use Rattle.carte_name.specs.declared.kind.Kind.TheVariants.{Rules}
use Rattle.carte_tree.specs.Tree.{Tree}
use Rattle.carte_formula.proofs.Round.{one_reading}
use Rattle.carte_book.specs.Book.{Book, rule}
use Rattle.carte_book.specs.declared.fault.BookFault.{BookFault}
use Rattle.carte_rules.specs.Tables.{◌>>=◌, Tables, tables_of}
use Rattle.carte_rules.specs.Reading.{Content, Then, text_at, at_rule, FormulaOf, RuleAt, RulesInto, book_of, WithRules, inputs_into, InTables, BookOf}

one_then : {A B : Type 0} (r : Result A BookFault) (P : A → Result B BookFault → Type 0) → ((a : A) (o p : Result B BookFault) → P a o → P a p → o ≡ p) → (o p : Result B BookFault) → Then r P o → Then r P p → o ≡ p
one_then (Ok a) P one o p h k = one a o p h k
one_then (Err fault) P one o p h k = h ∙ sym k

one_formula : (k text : List ℕ) (o p : Result Tree BookFault) → FormulaOf k text o → FormulaOf k text p → o ≡ p
one_formula k text o p (r, h, t, is) (s, g, u, js) = is ∙ ap (at_rule k) (one_reading Rules text r s h g t u) ∙ sym js

pub one_rule : (k : List ℕ) (d : Data) (m : Content) (o p : Result Tree BookFault) → RuleAt k d m o → RuleAt k d m p → o ≡ p
one_rule k d m o p h g = one_then (text_at k d m) (FormulaOf k) (one_formula k) o p h g

pub one_rules : (ms : Members) (m : Content) (o p : Result Content BookFault) → RulesInto ms m o → RulesInto ms m p → o ≡ p
one_rules no_members m o p h g = h ∙ sym g
one_rules (member k d ms) m o p (r, is, h) (s, js, g) =
    let next : Tree → Result Content BookFault → Type 0 = λ e. RulesInto ms (insert m k (rule e)) in
    let same : s ≡ r = one_rule k d m s r js is in
    one_then r next (λ e. one_rules ms (insert m k (rule e))) o p h (subst (λ (x : Result Tree BookFault). Then x next p) same g)

with_rules : (ms : Members) (m : Content) (o p : Result Book BookFault) → WithRules ms m o → WithRules ms m p → o ≡ p
with_rules ms m o p (r, h, is) (s, g, js) = is ∙ ap (λ (x : Result Content BookFault). x >>= book_of) (one_rules ms m r s h g) ∙ sym js

in_tables : (t : Tables) (o p : Result Book BookFault) → InTables t o → InTables t p → o ≡ p
in_tables t o p h g = one_then (inputs_into t.inputs empty) (WithRules t.rules) (with_rules t.rules) o p h g

pub one_book : (bytes : List ℕ) (o p : Result Book BookFault) → BookOf bytes o → BookOf bytes p → o ≡ p
one_book bytes o p h g = one_then (tables_of bytes) InTables in_tables o p h g
