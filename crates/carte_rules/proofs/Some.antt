-- Each list of bytes is a book, or has a fault.
use Rattle.std.proofs.Common.{ℕ, List, Result, Ok, Err, refl}
use Rattle.std.specs.FinMap.{insert, empty}
use Rattle.toml.specs.Data.{Data, Members, no_members, member}
use Rattle.carte_name.specs.declared.kind.Kind.TheVariants.{Rules}
use Rattle.carte_formula.specs.Whole.{reading}
use Rattle.carte_formula.proofs.Round.{reads_reading, told_reading}
use Rattle.carte_book.specs.Book.{rule}
use Rattle.carte_book.specs.declared.fault.BookFault.{BookFault}
use Rattle.carte_rules.specs.Tables.{◌>>=◌, Tables, tables_of}
use Rattle.carte_rules.specs.Reading.{Content, inputs_into, Then, text_at, FormulaOf, RuleAt, RulesInto, book_of, WithRules, InTables, BookOf, formula_in, rules_in, book_in}

then_so : {A B : Type 0} (r : Result A BookFault) (P : A → Result B BookFault → Type 0) (f : A → Result B BookFault) → ((a : A) → P a (f a)) → Then r P (r >>= f)
then_so (Ok a) P f h = h a
then_so (Err fault) P f h = refl

formula_some : (k text : List ℕ) → FormulaOf k text (formula_in k text)
formula_some k text = (reading Rules text, reads_reading Rules text, told_reading Rules text, refl)

pub rule_some : (k : List ℕ) (d : Data) (m : Content) → RuleAt k d m (text_at k d m >>= formula_in k)
rule_some k d m = then_so (text_at k d m) (FormulaOf k) (formula_in k) (formula_some k)

pub rules_some : (ms : Members) (m : Content) → RulesInto ms m (rules_in ms m)
rules_some no_members m = refl
rules_some (member k d ms) m =
    (text_at k d m >>= formula_in k, rule_some k d m, then_so (text_at k d m >>= formula_in k) (λ e. RulesInto ms (insert m k (rule e))) (λ e. rules_in ms (insert m k (rule e))) (λ e. rules_some ms (insert m k (rule e))))

with_rules_some : (ms : Members) (m : Content) → WithRules ms m (rules_in ms m >>= book_of)
with_rules_some ms m = (rules_in ms m, rules_some ms m, refl)

tables_some : (t : Tables) → InTables t (inputs_into t.inputs empty >>= (λ m. rules_in t.rules m >>= book_of))
tables_some t = then_so (inputs_into t.inputs empty) (WithRules t.rules) (λ m. rules_in t.rules m >>= book_of) (with_rules_some t.rules)

pub book_some : (bytes : List ℕ) → BookOf bytes (book_in bytes)
book_some bytes = then_so (tables_of bytes) InTables (λ t. inputs_into t.inputs empty >>= (λ m. rules_in t.rules m >>= book_of)) tables_some
