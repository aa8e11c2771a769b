-- One key, its value and what comes of them.
use Rattle.std.proofs.Common.{◌≡◌, ℕ, Bool, true, false, cond, List, Option, Some, None, is_some, Result, Ok, Err, refl, ap, sym, subst}
use Rattle.std.specs.FinMap.{get, insert}
use Rattle.toml.specs.Data.{Data, string}
use Rattle.carte_value.specs.declared.value.Value.{Value}
use Rattle.carte_name.specs.Names.{is_rule_name}
use Rattle.carte_tree.specs.Tree.{Tree}
use Rattle.carte_book.specs.Book.{Item, input}
use Rattle.carte_book.specs.declared.fault.BookFault.{BookFault}
use Rattle.carte_book.specs.declared.fault.BookFault.TheVariants.{BadName, BadValue, Twice}
use Rattle.carte_rules.specs.Tables.{◌>>=◌}
use Rattle.carte_rules.specs.Reading.{Content, name_of, new_name, or_fault, value_of, input_into, FormulaOf, RuleAt}

good_name : (good : Bool) (k j : List ℕ) → ◌≡◌ {A = Result (List ℕ) BookFault} (cond good (Ok k) (Err (BadName k))) (Ok j) → j ≡ k
good_name true k j e = cc
good_name false k j e = cc

-- the name that a key is has its bytes
pub same_name : (k j : List ℕ) → name_of k ≡ Ok j → j ≡ k
same_name k j e = good_name (is_rule_name k) k j e

-- the content with one input more
pub input_put : (k j : List ℕ) (d : Data) (v : Value) (m : Content) → name_of k ≡ Ok j → Some v ≡ value_of d → input_into k d m ≡ Ok (insert m j (input v))
input_put k j d v m e is = rw (e, ← is) (ap (λ (q : List ℕ). Ok (insert m q (input v))) (sym (same_name k j e)))

taken : (good : Bool) (k : List ℕ) (o : Option Value) (m n : Content) → (cond good (Ok k) (Err (BadName k)) >>= (λ j. or_fault o (BadValue j)) >>= (λ v. Ok (insert m k (input v)))) ≡ Ok n → (x : Item) × (n ≡ insert m k x)
taken true k (Some v) m n e = (input v, cc)
taken true k None m n e = absurd (cc)
taken false k o m n e = absurd (cc)

-- what an input changes is its key
pub one_input : (k : List ℕ) (d : Data) (m n : Content) → input_into k d m ≡ Ok n → (x : Item) × (n ≡ insert m k x)
one_input k d m n e = taken (is_rule_name k) k (value_of d) m n e

told : (good : Bool) (k j : List ℕ) → ◌≡◌ {A = Result (List ℕ) BookFault} (cond good (Ok k) (Err (BadName k))) (Ok j) → good ≡ true
told true k j e = refl
told false k j e = cc

-- a key that is a name is one
pub is_name : (k j : List ℕ) → name_of k ≡ Ok j → is_rule_name k ≡ true
is_name k j e = told (is_rule_name k) k j e

untold : (good : Bool) (k : List ℕ) (o : Option Item) (fault : BookFault) → ◌≡◌ {A = Result (List ℕ) BookFault} (cond good (Ok k) (Err (BadName k))) (Err fault) → ◌≡◌ {A = Result (List ℕ) BookFault} (cond good (cond (is_some o) (Err (Twice k)) (Ok k)) (Err (BadName k))) (Err fault)
untold true k o fault e = absurd (cc)
untold false k o fault e = e

named : (good : Bool) (k j : List ℕ) (o : Option Item) → ◌≡◌ {A = Result (List ℕ) BookFault} (cond good (cond (is_some o) (Err (Twice k)) (Ok k)) (Err (BadName k))) (Ok j) → j ≡ k
named true k j None e = cc
named true k j (Some x) e = cc
named false k j o e = cc

-- a name that is a new one has the key's bytes
pub new_is_key : (k j : List ℕ) (m : Content) → new_name k m ≡ Ok j → j ≡ k
new_is_key k j m e = named (is_rule_name k) k j (get m k) e

-- the fault of a new name is the rule's
pub name_fault : (k : List ℕ) (d : Data) (m : Content) (fault : BookFault) → new_name k m ≡ Err fault → RuleAt k d m (Err fault)
name_fault k d m fault e = rw e refl

-- or of one at which something stands
pub taken_fault : (k : List ℕ) (d : Data) (m : Content) → is_rule_name k ≡ true → is_some (get m k) ≡ true → RuleAt k d m (Err (Twice k))
taken_fault k d m name there = name_fault k d m (Twice k) (rw (name, there) refl)

-- and then comes what the text is read as
pub text_rule : (k j text : List ℕ) (m : Content) (o : Result Tree BookFault) → new_name k m ≡ Ok j → FormulaOf j text o → RuleAt k (string text) m o
text_rule k j text m o e h = rw e (subst (λ (q : List ℕ). FormulaOf q text o) (new_is_key k j m e) h)

pub new_here : (k : List ℕ) (m : Content) → is_rule_name k ≡ true → get m k ≡ None → new_name k m ≡ Ok k
new_here k m name none = rw (name, none) refl
