-- Which bytes are a rule file, and which book it is. Members stand in byte order of their keys.
use Rattle.std.specs.Prelude.{ℕ, ◌≡◌, ◌≤◌, nat_le, List, length, Option, Some, None, is_some, Result, Ok, Err, if◌then◌else◌}
use Rattle.std.specs.FinMap.{FinMap, get, insert, empty}
use Rattle.toml.specs.Data.{Data, string, integer, Members, no_members, member, as_str}
use Rattle.carte_name.specs.declared.kind.Kind.TheVariants.{Rules}
use Rattle.carte_value.specs.declared.value.Value.{Value}
use Rattle.carte_value.specs.declared.value.Value.TheVariants.{Number, Text}
use Rattle.carte_name.specs.Names.{name_cmp, is_rule_name}
use Rattle.carte_tree.specs.Tree.{Tree}
use Rattle.carte_tree.specs.declared.fault.FormulaFault.{FormulaFault}
use Rattle.carte_formula.specs.Whole.{Reads, IsTold, reading}
use Rattle.carte_book.specs.Book.{Item, input, rule, Book, book_view}
use Rattle.carte_book.specs.Drafts as drafts
use Rattle.carte_book.specs.declared.book.Book.{Book as CodeBook}
use Rattle.carte_book.specs.declared.fault.BookFault.{BookFault}
use Rattle.carte_book.specs.declared.fault.BookFault.TheVariants.{BadName, BadValue, Formula, Twice, NoMemory}
use Rattle.carte_rules.specs.Tables.{◌>>=◌, Tables, tables_of}

abbrev pub Content : Type 0
Content = FinMap name_cmp Item

-- a key is a name
abbrev pub name_of : List ℕ → Result (List ℕ) BookFault
name_of k = if is_rule_name k then Ok k else Err (BadName k)

abbrev pub or_fault : {A : Type 0} → Option A → BookFault → Result A BookFault
or_fault (Some a) fault = Ok a
or_fault None fault = Err fault

-- an input is an integer, or a text of at most 65,536 bytes
abbrev pub value_of : Data → Option Value
value_of (integer z) = Some (Number z)
value_of (string s) = if nat_le (length s) 65536 then Some (Text s) else None
value_of _ = None

abbrev pub input_into : List ℕ → Data → Content → Result Content BookFault
input_into k d m = name_of k >>= (λ j. or_fault (value_of d) (BadValue j)) >>= (λ v. Ok (insert m k (input v)))

abbrev pub inputs_into : Members → Content → Result Content BookFault
inputs_into no_members m = Ok m
inputs_into (member k d ms) m = input_into k d m >>= inputs_into ms

-- a fault is the end, and else it goes on so
abbrev pub Then : {A B : Type 0} → Result A BookFault → (A → Result B BookFault → Type 0) → Result B BookFault → Type 0
Then (Ok a) P o = P a o
Then (Err fault) P o = o ≡ Err fault

-- a rule's key is a name at which nothing stands yet, so that of no input
abbrev pub new_name : List ℕ → Content → Result (List ℕ) BookFault
new_name k m = if is_rule_name k then (if is_some (get m k) then Err (Twice k) else Ok k) else Err (BadName k)

-- and its value is a text
abbrev pub text_at : List ℕ → Data → Content → Result (List ℕ) BookFault
text_at k d m = new_name k m >>= (λ j. or_fault (as_str d) (BadValue j))

abbrev pub at_rule : List ℕ → Result Tree FormulaFault → Result Tree BookFault
at_rule k (Ok e) = Ok e
at_rule k (Err fault) = Err (Formula k fault)

-- what the text is read as, where there is memory
abbrev pub FormulaOf : List ℕ → List ℕ → Result Tree BookFault → Type 0
FormulaOf k text o = (r : Result Tree FormulaFault) × Reads Rules text r × IsTold r × (o ≡ at_rule k r)

abbrev pub RuleAt : List ℕ → Data → Content → Result Tree BookFault → Type 0
RuleAt k d m o = Then (text_at k d m) (FormulaOf k) o

abbrev pub RulesInto : Members → Content → Result Content BookFault → Type 0
RulesInto no_members m o = o ≡ Ok m
RulesInto (member k d ms) m o = (r : Result Tree BookFault) × RuleAt k d m r × Then r (λ e. RulesInto ms (insert m k (rule e))) o

-- at most 262,144 keys
abbrev pub book_of : Content → Result Book BookFault
book_of m = drafts.book_of Rules m

-- the rules come after all inputs, and the number of keys last
abbrev pub WithRules : Members → Content → Result Book BookFault → Type 0
WithRules ms m o = (r : Result Content BookFault) × RulesInto ms m r × (o ≡ (r >>= book_of))

abbrev pub InTables : Tables → Result Book BookFault → Type 0
InTables t o = Then (inputs_into t.inputs empty) (WithRules t.rules) o

-- the book that bytes are, or the first fault why they are none
abbrev pub BookOf : List ℕ → Result Book BookFault → Type 0
BookOf bytes o = Then (tables_of bytes) InTables o

-- the same as functions
abbrev pub formula_in : List ℕ → List ℕ → Result Tree BookFault
formula_in k text = at_rule k (reading Rules text)

abbrev pub rules_in : Members → Content → Result Content BookFault
rules_in no_members m = Ok m
rules_in (member k d ms) m = text_at k d m >>= formula_in k >>= (λ e. rules_in ms (insert m k (rule e)))

abbrev pub book_in : List ℕ → Result Book BookFault
book_in bytes = tables_of bytes >>= (λ t. inputs_into t.inputs empty >>= (λ m. rules_in t.rules m >>= book_of))

-- what a reader answers: that, but that memory may run out for bytes that aren't too many
abbrev pub IsRead : List ℕ → Result CodeBook BookFault → Type 0
IsRead bytes (Ok b) = BookOf bytes (Ok (book_view b))
IsRead bytes (Err NoMemory) = length bytes ≤ 16777216
IsRead bytes (Err fault) = BookOf bytes (Err fault)
