-- What the steps of reading answer.
use Rattle.std.specs.Prelude.{ℕ, ◌≡◌, List, None, Result, Ok, Err}
use Rattle.std.specs.FinMap.{get, insert}
use Rattle.toml.specs.Data.{Data, Members}
use Rattle.carte_tree.specs.Tree.{Tree}
use Rattle.carte_tree.specs.declared.fault.FormulaFault.TheVariants.{NoMemory as NoFormulaMemory}
use Rattle.carte_book.specs.Book.{rule, Book, book_view}
use Rattle.carte_book.specs.declared.book.Book.{Book as CodeBook}
use Rattle.carte_book.specs.declared.fault.BookFault.{BookFault}
use Rattle.carte_book.specs.declared.fault.BookFault.TheVariants.{Formula, NoMemory}
use Rattle.carte_rules.specs.Reading.{Content, input_into, RuleAt, RulesInto}
use Rattle.carte_rules.specs.Drafts.{Holds}
use Rattle.carte_rules.specs.declared.draft.Draft.{Draft}

-- not the want of memory
abbrev pub IsCause : BookFault → Type 0
IsCause NoMemory = ⊥
IsCause _ = Unit {0}

-- neither that, nor the want of memory in reading a formula
abbrev pub IsOfBytes : BookFault → Type 0
IsOfBytes NoMemory = ⊥
IsOfBytes (Formula k NoFormulaMemory) = ⊥
IsOfBytes _ = Unit {0}

-- the answer that stands for this one, but that memory may run out
abbrev pub Gives : {A B : Type 0} → (B → A) → Result A BookFault → Result B BookFault → Type 0
Gives seen o (Ok b) = o ≡ Ok (seen b)
Gives seen o (Err fault) = IsCause fault → o ≡ Err fault

-- the draft holds what comes of it
abbrev pub Leaves : Result Content BookFault → Draft → Result (Unit {0}) BookFault → Type 0
Leaves o d (Ok u) = (m : Content) × (o ≡ Ok m) × Holds d m
Leaves o d (Err fault) = IsCause fault → o ≡ Err fault

-- the draft holds the input too, at a key at which nothing stood
abbrev pub LeavesInput : List ℕ → Data → Content → Draft → Result (Unit {0}) BookFault → Type 0
LeavesInput k d m draft (Ok u) = (n : Content) × (get m k ≡ None) × (input_into k d m ≡ Ok n) × Holds draft n
LeavesInput k d m draft (Err fault) = get m k ≡ None → IsCause fault → input_into k d m ≡ Err fault

-- the draft holds what the value gives at the key, too
abbrev pub LeavesRule : List ℕ → Data → Content → Draft → Result (Unit {0}) BookFault → Type 0
LeavesRule k d m draft (Ok u) = (e : Tree) × RuleAt k d m (Ok e) × Holds draft (insert m k (rule e))
LeavesRule k d m draft (Err fault) = IsCause fault → RuleAt k d m (Err fault)

-- and all rules
abbrev pub LeavesRules : Members → Content → Draft → Result (Unit {0}) BookFault → Type 0
LeavesRules ms m draft (Ok u) = (n : Content) × RulesInto ms m (Ok n) × Holds draft n
LeavesRules ms m draft (Err fault) = IsCause fault → RulesInto ms m (Err fault)

-- a book or a fault of which this is true, but that memory may run out
abbrev pub Answers : (Result Book BookFault → Type 0) → Result CodeBook BookFault → Type 0
Answers P (Ok b) = P (Ok (book_view b))
Answers P (Err fault) = IsCause fault → P (Err fault)
