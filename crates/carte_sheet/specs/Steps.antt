-- What the steps of reading answer.
use Rattle.std.specs.Prelude.{ℕ, ◌≡◌, ◌+◌, ⊤, List, Option, Some, None, Result, Ok, Err}
use Rattle.std.specs.FinMap.{empty, insert}
use Rattle.csv.specs.declared.error.ErrorKind.{ErrorKind}
use Rattle.csv.specs.declared.error.ErrorKind.TheVariants as kind
use Rattle.carte_name.specs.declared.NoMemory.{NoMemory as NoValueMemory}
use Rattle.carte_value.specs.declared.value.Value.{Value}
use Rattle.carte_tree.specs.declared.fault.FormulaFault.TheVariants.{NoMemory as NoFormulaMemory}
use Rattle.carte_book.specs.Book.{Item, Book, book_view}
use Rattle.carte_book.specs.declared.book.Book.{Book as CodeBook}
use Rattle.carte_book.specs.declared.fault.BookFault.{BookFault}
use Rattle.carte_book.specs.declared.fault.BookFault.TheVariants.{Formula, NoMemory}
use Rattle.carte_sheet.specs.Reading.{Content, ValueAt, IsTooLong, FilledInto, FieldInto, RowInto, RowsInto}
use Rattle.carte_sheet.specs.Places.{IsAbove, IsBefore}
use Rattle.carte_sheet.specs.Drafts.{Holds}
use Rattle.carte_sheet.specs.declared.draft.Draft.{Draft}

-- not the want of memory
abbrev pub IsCause : BookFault → Type 0
IsCause NoMemory = ⊥
IsCause _ = Unit {0}

-- neither that, nor the want of memory in reading a formula
abbrev pub IsOfBytes : BookFault → Type 0
IsOfBytes NoMemory = ⊥
IsOfBytes (Formula k NoFormulaMemory) = ⊥
IsOfBytes _ = Unit {0}

-- the answer that stands for this one, but that memory may run out
abbrev pub Gives : {A B : Type 0} → (B → A) → Result A BookFault → Result B BookFault → Type 0
Gives seen o (Ok b) = o ≡ Ok (seen b)
Gives seen o (Err fault) = IsCause fault → o ≡ Err fault

-- a book or a fault of which this is true, but that memory may run out
abbrev pub Answers : (Result Book BookFault → Type 0) → Result CodeBook BookFault → Type 0
Answers P (Ok b) = P (Ok (book_view b))
Answers P (Err fault) = IsCause fault → P (Err fault)

abbrev pub IsValueOf : List ℕ → Result (Option Value) NoValueMemory → Type 0
IsValueOf text (Ok (Some v)) = ValueAt text v
IsValueOf text (Ok None) = IsTooLong text
IsValueOf text (Err e) = ⊤

-- the draft holds what this gives at the key, too
abbrev pub LeavesItem : (Result Item BookFault → Type 0) → List ℕ → Content → Draft → Result (Unit {0}) BookFault → Type 0
LeavesItem P k m d (Ok u) = (x : Item) × P (Ok x) × Holds d (insert m k x)
LeavesItem P k m d (Err fault) = IsCause fault → P (Err fault)

-- and what the field at the key gives
abbrev pub LeavesFilled : List ℕ → List ℕ → Content → Draft → Result (Unit {0}) BookFault → Type 0
LeavesFilled k field m d (Ok u) = (x : Item) × FilledInto k field m (Ok (insert m k x)) × Holds d (insert m k x)
LeavesFilled k field m d (Err fault) = IsCause fault → FilledInto k field m (Err fault)

-- and what the field at the place gives
abbrev pub LeavesField : ℕ → ℕ → List ℕ → Content → Draft → Result (Unit {0}) BookFault → Type 0
LeavesField r c field m d (Ok u) = (n : Content) × FieldInto r c field m (Ok n) × Holds d n × IsBefore n r (c + 1)
LeavesField r c field m d (Err fault) = IsCause fault → FieldInto r c field m (Err fault)

-- and what all fields of the row give
abbrev pub LeavesRow : ℕ → List (List ℕ) → Content → Draft → Result (Unit {0}) BookFault → Type 0
LeavesRow r fields m d (Ok u) = (n : Content) × RowInto r fields m (Ok n) × Holds d n × IsAbove n (r + 1)
LeavesRow r fields m d (Err fault) = IsCause fault → RowInto r fields m (Err fault)

-- and what all rows give
abbrev pub LeavesRows : List (List (List ℕ)) → Draft → Result (Unit {0}) BookFault → Type 0
LeavesRows rows d (Ok u) = (m : Content) × RowsInto 1 rows empty (Ok m) × Holds d m
LeavesRows rows d (Err fault) = IsCause fault → RowsInto 1 rows empty (Err fault)

-- an error that no record's length or bytes give
abbrev pub EndsRecords : ErrorKind → Type 0
EndsRecords (kind.UnequalLengths place expected len) = ⊥
EndsRecords (kind.Utf8 place fault) = ⊥
EndsRecords _ = Unit {0}
