-- One turn over the fields of a row, and over the rows.
use Rattle.std.proofs.Common.{◌≡◌, ℕ, ◌+◌, ◌<◌, List, [], ◌∷◌, length, drop, get_or, Some, add-one, Result, Ok, Err, refl, sym, subst}
use Rattle.std.proofs.Math.Seq.{drop-cons}
use Rattle.csv.specs.Records.{field_at}
use Rattle.csv.proofs.RecordFacts.{field-get}
use Rattle.std.specs.FinMap.{empty}
use Rattle.carte_book.specs.Book.{book_view}
use Rattle.carte_book.specs.declared.book.Book.{Book as CodeBook}
use Rattle.carte_book.specs.declared.fault.BookFault.{BookFault}
use Rattle.carte_sheet.specs.Reading.{Content, FieldInto, FieldsInto, RowsInto, InRows, book_of}
use Rattle.carte_sheet.specs.Steps.{Gives, Answers}

pub fields_turn : (r c : ℕ) (all fs : List (List ℕ)) (f : List ℕ) (m n : Content) (o : Result Content BookFault) → all ≡ f ∷ fs → FieldInto r c f m (Ok n) → FieldsInto r (c + 1) fs n o → FieldsInto r c all m o
fields_turn r c all fs f m n o is h g = subst (λ (xs : List (List ℕ)). FieldsInto r c xs m o) (sym is) (Ok n, h, g)

pub fields_end : (r c : ℕ) (all : List (List ℕ)) (m : Content) → all ≡ [] → FieldsInto r c all m (Ok m)
fields_end r c all m is = subst (λ (xs : List (List ℕ)). FieldsInto r c xs m (Ok m)) (sym is) refl

pub rows_turn : (r : ℕ) (all rows : List (List (List ℕ))) (fs : List (List ℕ)) (m n : Content) (o : Result Content BookFault) → all ≡ fs ∷ rows → FieldsInto r 1 fs m (Ok n) → RowsInto (r + 1) rows n o → RowsInto r all m o
rows_turn r all rows fs m n o is h g = subst (λ (xs : List (List (List ℕ))). RowsInto r xs m o) (sym is) (Ok n, h, g)

pub rows_fault : (r : ℕ) (all rows : List (List (List ℕ))) (fs : List (List ℕ)) (m : Content) (fault : BookFault) → all ≡ fs ∷ rows → FieldsInto r 1 fs m (Err fault) → RowsInto r all m (Err fault)
rows_fault r all rows fs m fault is h = subst (λ (xs : List (List (List ℕ))). RowsInto r xs m (Err fault)) (sym is) (Err fault, h, refl)

pub rows_end : (r : ℕ) (all : List (List (List ℕ))) (m : Content) → all ≡ [] → RowsInto r all m (Ok m)
rows_end r all m is = subst (λ (xs : List (List (List ℕ))). RowsInto r xs m (Ok m)) (sym is) refl

pub all_rows : (rows : List (List (List ℕ))) (m : Content) (res : Result CodeBook BookFault) → RowsInto 1 rows empty (Ok m) → Gives book_view (book_of m) res → Answers (InRows rows) res
all_rows rows m (Ok b) h is = (Ok m, h, sym is)
all_rows rows m (Err fault) h is = λ cause. (Ok m, h, sym (is cause))

-- the field at a place, and those behind it
pub at_drop : (fs : List (List ℕ)) (i : ℕ) → i < length fs → drop i fs ≡ get_or fs i [] ∷ drop (i + 1) fs
at_drop fs i lt = rw (add-one, drop-cons fs i []) refl

pub at_field : (fs : List (List ℕ)) (i : ℕ) (f : List ℕ) → field_at fs i ≡ Some f → get_or fs i [] ≡ f
at_field fs i f e = field-get fs i f e
