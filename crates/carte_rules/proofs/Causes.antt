-- No fault of bytes is the want of memory.
use Rattle.std.proofs.Common.{ℕ, Bool, true, false, cond, List, length, nat_lt, Option, Some, None, is_some, codes, Result, Ok, Err, sym, subst}
use Rattle.std.specs.FinMap.{get, insert, empty, entries}
use Rattle.toml.specs.Data.{Data, string, integer, float, boolean, datetime, array, table, Members, no_members, member, as_str}
use Rattle.carte_name.specs.Names.{is_rule_name, name_eq}
use Rattle.carte_tree.specs.Tree.{Tree}
use Rattle.carte_tree.specs.declared.fault.FormulaFault.{FormulaFault}
use Rattle.carte_tree.specs.declared.fault.FormulaFault.TheVariants.{BadToken, BadSyntax, TooDeep, TooLong, TooWide, NoMemory}
use Rattle.carte_formula.specs.Whole.{IsTold}
use Rattle.carte_book.specs.Book.{Book, input, rule}
use Rattle.carte_book.specs.declared.fault.BookFault.{BookFault}
use Rattle.carte_book.specs.declared.fault.BookFault.TheVariants.{BadValue}
use Rattle.carte_rules.specs.Tables.{◌>>=◌, Tables, table_into, tables_into, no_tables, tables_in, tables_of, document}
use Rattle.carte_rules.specs.Reading.{Content, Then, name_of, new_name, or_fault, value_of, input_into, inputs_into, text_at, at_rule, FormulaOf, RuleAt, RulesInto, book_of, WithRules, InTables, BookOf}
use Rattle.carte_rules.specs.Steps.{IsOfBytes}

abbrev Fine : {A : Type 0} → Result A BookFault → Type 0
Fine (Ok a) = Unit {0}
Fine (Err fault) = IsOfBytes fault

bound : {A B : Type 0} (r : Result A BookFault) (f : A → Result B BookFault) → Fine r → ((a : A) → Fine (f a)) → Fine (r >>= f)
bound (Ok a) f h g = g a
bound (Err fault) f h g = h

then : {A B : Type 0} (r : Result A BookFault) (P : A → Result B BookFault → Type 0) → Fine r → ((a : A) (o : Result B BookFault) → P a o → Fine o) → (o : Result B BookFault) → Then r P o → Fine o
then (Ok a) P h g o p = g a o p
then (Err fault) P h g o p = subst Fine (sym p) h

either : {A : Type 0} (b : Bool) (r s : Result A BookFault) → Fine r → Fine s → Fine (cond b r s)
either true r s h g = h
either false r s h g = g

-- the tables
fine_table : (k : List ℕ) (d : Data) (t : Tables) → Fine (table_into k d t)
fine_table k (table ms) t = either (name_eq k (codes "inputs")) _ _ tt (either (name_eq k (codes "rules")) _ _ tt tt)
fine_table k (string s) t = tt
fine_table k (integer z) t = tt
fine_table k (float x) t = tt
fine_table k (boolean b) t = tt
fine_table k (datetime x) t = tt
fine_table k (array ds) t = tt

fine_tables : (ms : Members) (t : Tables) → Fine (tables_into ms t)
fine_tables no_members t = tt
fine_tables (member k d ms) t = bound (table_into k d t) (tables_into ms) (fine_table k d t) (fine_tables ms)

fine_in : (o : Option Members) → Fine (tables_in o)
fine_in None = tt
fine_in (Some ms) = fine_tables ms no_tables

fine_of : (bytes : List ℕ) → Fine (tables_of bytes)
fine_of bytes = either (nat_lt 16777216 (length bytes)) _ _ tt (fine_in (document bytes))

-- the inputs
fine_name : (k : List ℕ) → Fine (name_of k)
fine_name k = either (is_rule_name k) _ _ tt tt

fine_value : {A : Type 0} (k : List ℕ) (o : Option A) → Fine (or_fault o (BadValue k))
fine_value k None = tt
fine_value k (Some a) = tt

fine_input : (k : List ℕ) (d : Data) (m : Content) → Fine (input_into k d m)
fine_input k d m = bound (name_of k >>= (λ j. or_fault (value_of d) (BadValue j))) (λ v. Ok (insert m k (input v))) (bound (name_of k) (λ j. or_fault (value_of d) (BadValue j)) (fine_name k) (λ j. fine_value j (value_of d))) (λ v. tt)

fine_inputs : (ms : Members) (m : Content) → Fine (inputs_into ms m)
fine_inputs no_members m = tt
fine_inputs (member k d ms) m = bound (input_into k d m) (inputs_into ms) (fine_input k d m) (fine_inputs ms)

-- the rules
fine_new_name : (k : List ℕ) (m : Content) → Fine (new_name k m)
fine_new_name k m = either (is_rule_name k) _ _ (either (is_some (get m k)) _ _ tt tt) tt

fine_read : (k : List ℕ) (r : Result Tree FormulaFault) → IsTold r → Fine (at_rule k r)
fine_read k (Ok e) t = tt
fine_read k (Err (BadToken place)) t = tt
fine_read k (Err (BadSyntax place)) t = tt
fine_read k (Err (TooDeep place)) t = tt
fine_read k (Err (TooLong size)) t = tt
fine_read k (Err (TooWide place)) t = tt
fine_read k (Err NoMemory) t = absurd t

fine_formula : (k text : List ℕ) (o : Result Tree BookFault) → FormulaOf k text o → Fine o
fine_formula k text o (r, h, t, is) = subst Fine (sym is) (fine_read k r t)

fine_rule : (k : List ℕ) (d : Data) (m : Content) (o : Result Tree BookFault) → RuleAt k d m o → Fine o
fine_rule k d m o h = then (text_at k d m) (FormulaOf k) (bound (new_name k m) (λ j. or_fault (as_str d) (BadValue j)) (fine_new_name k m) (λ j. fine_value j (as_str d))) (fine_formula k) o h

fine_rules : (ms : Members) (m : Content) (o : Result Content BookFault) → RulesInto ms m o → Fine o
fine_rules no_members m o h = subst Fine (sym h) tt
fine_rules (member k d ms) m o (r, is, h) = then r (λ e. RulesInto ms (insert m k (rule e))) (fine_rule k d m r is) (λ e. fine_rules ms (insert m k (rule e))) o h

-- the book
fine_book : (m : Content) → Fine (book_of m)
fine_book m = either (nat_lt 262144 (length (entries m))) _ _ tt tt

fine_with : (ms : Members) (m : Content) (o : Result Book BookFault) → WithRules ms m o → Fine o
fine_with ms m o (r, h, is) = subst Fine (sym is) (bound r book_of (fine_rules ms m r h) fine_book)

fine_all : (t : Tables) (o : Result Book BookFault) → InTables t o → Fine o
fine_all t o h = then (inputs_into t.inputs empty) (WithRules t.rules) (fine_inputs t.inputs empty) (fine_with t.rules) o h

pub of_bytes : (bytes : List ℕ) (fault : BookFault) → BookOf bytes (Err fault) → IsOfBytes fault
of_bytes bytes fault h = then (tables_of bytes) InTables (fine_of bytes) fine_all (Err fault) h
