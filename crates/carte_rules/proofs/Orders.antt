-- What comes of entries that were put as they stand comes of them by their keys.
use Rattle.std.proofs.Common.{◌≡◌, ℕ, Bool, true, false, cond, List, [], ◌∷◌, Option, Some, None, IfSome, is_some, option_map, option_and_then, Result, Ok, Err, refl, sym, ap, subst, ◌∙◌}
use Rattle.std.specs.Result.{result_ok}
use Rattle.std.specs.FinMap.{get, insert, empty}
use Rattle.toml.specs.Data.{as_str}
use Rattle.toml.specs.Parse.{parse_document}
use Rattle.carte_name.specs.declared.kind.Kind.TheVariants.{Rules}
use Rattle.carte_name.specs.Names.{is_rule_name}
use Rattle.carte_value.specs.declared.value.Value.{Value}
use Rattle.carte_tree.specs.Tree.{Tree}
use Rattle.carte_tree.specs.declared.fault.FormulaFault.{FormulaFault}
use Rattle.carte_formula.specs.Whole.{reading}
use Rattle.carte_book.specs.Book.{Book, Item, input, rule, book_view}
use Rattle.carte_book.specs.declared.book.Book.{Book as CodeBook}
use Rattle.carte_book.specs.declared.fault.BookFault.{BookFault}
use Rattle.carte_book.specs.declared.fault.BookFault.TheVariants.{BadName, BadValue, Twice}
use Rattle.carte_rules.specs.Tables.{◌>>=◌}
use Rattle.carte_rules.specs.Entries.{data_of, members_of, document_of}
use Rattle.carte_rules.specs.Orders.{IsOrderOf, IsOfLines, new_input, new_inputs}
use Rattle.carte_rules.specs.Reading.{Content, Then, or_fault, value_of, input_into, inputs_into, text_at, at_rule, formula_in, rules_in, RulesInto, book_of, WithRules}
use Rattle.carte_rules.specs.Steps.{Gives}
use Rattle.carte_rules.specs.declared.entry.Entry.{Entry}
use Rattle.carte_rules.proofs.Some.{rules_some}
use Rattle.carte_rules.proofs.Sorting.{came, step, in_order}
use Rattle.carte_rules.proofs.Swaps.{run}
use Rattle.carte_rules.proofs.Unique.{one_rules}

-- the text is the document of the entries by their keys
abbrev pub IsDocumentOf : List ℕ → List Entry → List Entry → Type 0
IsDocumentOf s es gs = (fs hs : List Entry) → IsOrderOf es fs → IsOrderOf gs hs → parse_document s ≡ Some (document_of fs hs)

through : {A B : Type 0} (f g : A → Option B) (o : Option A) → ((a : A) → f a ≡ g a) → option_and_then f o ≡ option_and_then g o
through f g None same = refl
through f g (Some a) same = same a

was : {A : Type 0} (r : Result A BookFault) (a : A) → result_ok r ≡ Some a → r ≡ Ok a
was (Ok b) a e = let same : b ≡ a = cc in ap Ok same
was (Err fault) a e = absurd (cc)

-- ---- the inputs

abbrev input_of : Entry → Option Item
input_of e = cond (is_rule_name e.key.now) (option_map input (value_of (data_of e.held))) None

input_so : (good there : Bool) (k : List ℕ) (o : Option Value) (m : Content)
    → cond there None (result_ok (cond good (Ok k) (Err (BadName k)) >>= (λ j. or_fault o (BadValue j)) >>= (λ v. Ok (insert m k (input v))))) ≡ cond there None (option_map (insert m k) (cond good (option_map input o) None))
input_so good true k o m = refl
input_so true false k None m = refl
input_so true false k (Some v) m = refl
input_so false false k o m = refl

-- a step is that of the definition, where nothing stands
input_step : (e : Entry) (m : Content) → new_input e m ≡ step input_of e m
input_step e m = input_so (is_rule_name e.key.now) (is_some (get m e.key.now)) e.key.now (value_of (data_of e.held)) m

inputs_run : (es : List Entry) (m : Content) → new_inputs es m ≡ run (step input_of) es m
inputs_run [] m = refl
inputs_run (e ∷ es) m = ap (option_and_then (new_inputs es)) (input_step e m) ∙ through (new_inputs es) (run (step input_of) es) (step input_of e m) (inputs_run es)

put_so : (there : Bool) (r : Result Content BookFault) (n : Content) → cond there None (result_ok r) ≡ Some n → r ≡ Ok n
put_so true r n e = absurd (cc)
put_so false r n e = was r n e

-- new inputs are what the definition has of them
inputs_told : (es : List Entry) (m n : Content) → new_inputs es m ≡ Some n → inputs_into (members_of es) m ≡ Ok n
inputs_told [] m n h = let same : m ≡ n = cc in ap Ok same
inputs_told (e ∷ es) m n h =
    let (s, at, on) = came (new_input e m) (new_inputs es) n h in
    ap (λ (r : Result Content BookFault). r >>= inputs_into (members_of es)) (put_so (is_some (get m e.key.now)) (input_into e.key.now (data_of e.held) m) s at) ∙ inputs_told es s n on

inputs_order : (es : List Entry) (m n : Content) → new_inputs es m ≡ Some n → (fs : List Entry) × IsOrderOf es fs × (inputs_into (members_of fs) m ≡ Ok n)
inputs_order es m n h =
    let (fs, order, put) = in_order input_of es m n (sym (inputs_run es m) ∙ h) in
    (fs, order, inputs_told fs m n (inputs_run fs m ∙ put))

-- ---- the rules

abbrev read_as : Result Tree FormulaFault → Option Item
read_as (Ok e) = Some (rule e)
read_as (Err fault) = None

abbrev rule_of : Entry → Option Item
rule_of e = cond (is_rule_name e.key.now) (option_and_then (λ text. read_as (reading Rules text)) (as_str (data_of e.held))) None

abbrev rule_into : Entry → Content → Result Content BookFault
rule_into e m = text_at e.key.now (data_of e.held) m >>= formula_in e.key.now >>= (λ t. Ok (insert m e.key.now (rule t)))

rule_so : (good there : Bool) (k : List ℕ) (o : Option (List ℕ)) (m : Content)
    → result_ok (cond good (cond there (Err (Twice k)) (Ok k)) (Err (BadName k)) >>= (λ j. or_fault o (BadValue j)) >>= formula_in k >>= (λ t. Ok (insert m k (rule t)))) ≡ cond there None (option_map (insert m k) (cond good (option_and_then (λ text. read_as (reading Rules text)) o) None))
rule_so true true k o m = refl
rule_so false true k o m = refl
rule_so false false k o m = refl
rule_so true false k None m = refl
rule_so true false k (Some text) m = by (reading Rules text)
  where
    by : (r : Result Tree FormulaFault) → result_ok (at_rule k r >>= (λ t. Ok (insert m k (rule t)))) ≡ option_map (insert m k) (read_as r)
    by (Ok t) = refl
    by (Err fault) = refl

rule_step : (e : Entry) (m : Content) → result_ok (rule_into e m) ≡ step rule_of e m
rule_step e m = rule_so (is_rule_name e.key.now) (is_some (get m e.key.now)) e.key.now (as_str (data_of e.held)) m

then_so : {A : Type 0} (r : Result A BookFault) (f : A → Content) (g : Content → Result Content BookFault) → result_ok (r >>= (λ a. g (f a))) ≡ option_and_then (λ m. result_ok (g m)) (result_ok (r >>= (λ a. Ok (f a))))
then_so (Ok a) f g = refl
then_so (Err fault) f g = refl

rules_run : (es : List Entry) (m : Content) → result_ok (rules_in (members_of es) m) ≡ run (step rule_of) es m
rules_run [] m = refl
rules_run (e ∷ es) m =
    then_so (text_at e.key.now (data_of e.held) m >>= formula_in e.key.now) (λ t. insert m e.key.now (rule t)) (rules_in (members_of es))
    ∙ ap (option_and_then (λ n. result_ok (rules_in (members_of es) n))) (rule_step e m)
    ∙ through (λ n. result_ok (rules_in (members_of es) n)) (run (step rule_of) es) (step rule_of e m) (rules_run es)

rules_order : (es : List Entry) (m n : Content) → RulesInto (members_of es) m (Ok n) → (fs : List Entry) × IsOrderOf es fs × RulesInto (members_of fs) m (Ok n)
rules_order es m n h =
    let all = members_of es in
    let read : rules_in all m ≡ Ok n = one_rules all m (rules_in all m) (Ok n) (rules_some all m) h in
    let (fs, order, put) = in_order rule_of es m n (sym (rules_run es m) ∙ ap result_ok read) in
    let again : rules_in (members_of fs) m ≡ Ok n = was (rules_in (members_of fs) m) n (rules_run fs m ∙ put) in
    (fs, order, subst (RulesInto (members_of fs) m) again (rules_some (members_of fs) m))

-- ---- both tables

of_lines : (s : List ℕ) (es gs : List Entry) (m n : Content) (b : Book) → IsDocumentOf s es gs → new_inputs es empty ≡ Some m → RulesInto (members_of gs) m (Ok n) → book_of n ≡ Ok b → IsOfLines s (Ok b)
of_lines s es gs m n b text put read is =
    let (fs, inputs_so, put_so) = inputs_order es empty m put in
    let (hs, rules_so, read_so) = rules_order gs m n read in
    let with_rules : WithRules (members_of hs) m (Ok b) = (Ok n, read_so, sym is) in
    (fs, hs, text fs hs inputs_so rules_so, subst (λ (r : Result Content BookFault). Then r (WithRules (members_of hs)) (Ok b)) (sym put_so) with_rules)

pub finished : (s : List ℕ) (es gs : List Entry) (m n : Content) (r : Result CodeBook BookFault) → IsDocumentOf s es gs → new_inputs es empty ≡ Some m → RulesInto (members_of gs) m (Ok n) → Gives book_view (book_of n) r → IfSome (result_ok r) (λ b. IsOfLines s (Ok (book_view b)))
finished s es gs m n (Ok b) text put read is = of_lines s es gs m n (book_view b) text put read is
finished s es gs m n (Err fault) text put read is = tt
