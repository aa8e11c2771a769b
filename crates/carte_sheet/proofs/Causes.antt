-- No fault of bytes is the want of memory.
use Rattle.std.proofs.Common.{ℕ, ◌+◌, ◌==◌, Bool, true, false, cond, nat_lt, List, [], ◌∷◌, length, drop, Result, Ok, Err, sym, subst}
use Rattle.std.specs.Prelude.{MatchBool, slice_index}
use Rattle.std.specs.Str.{is_utf8}
use Rattle.std.specs.FinMap.{empty, entries}
use Rattle.carte_tree.specs.Tree.{Tree}
use Rattle.carte_tree.specs.declared.fault.FormulaFault.{FormulaFault}
use Rattle.carte_tree.specs.declared.fault.FormulaFault.TheVariants.{BadToken, BadSyntax, TooDeep, TooLong, TooWide, NoMemory}
use Rattle.carte_formula.specs.Whole.{IsTold}
use Rattle.carte_book.specs.Book.{Item, Book}
use Rattle.carte_book.specs.declared.fault.BookFault.{BookFault}
use Rattle.carte_sheet.specs.Reading.{◌>>=◌, Content, Then, cell_of, text_of, ValueOf, at_cell, FormulaOf, ItemOf, put, ItemInto, FilledInto, FieldInto, FieldsInto, RowsInto, book_of, InRows, rows_of, BookOf}
use Rattle.carte_sheet.specs.Steps.{IsOfBytes}

abbrev Fine : {A : Type 0} → Result A BookFault → Type 0
Fine (Ok a) = Unit {0}
Fine (Err fault) = IsOfBytes fault

then : {A B : Type 0} (r : Result A BookFault) (P : A → Result B BookFault → Type 0) → Fine r → ((a : A) (o : Result B BookFault) → P a o → Fine o) → (o : Result B BookFault) → Then r P o → Fine o
then (Ok a) P h g o p = g a o p
then (Err fault) P h g o p = subst Fine (sym p) h

either : {A : Type 0} (b : Bool) (r s : Result A BookFault) → Fine r → Fine s → Fine (cond b r s)
either true r s h g = h
either false r s h g = g

fine_cell : (r c : ℕ) → Fine (cell_of r c)
fine_cell r c = either (nat_lt 9999 r) _ _ tt (either (nat_lt 702 c) _ _ tt tt)

fine_text : (k field : List ℕ) → Fine (text_of k field)
fine_text k field = either (is_utf8 field) _ _ tt tt

fine_value : (k text : List ℕ) (o : Result Item BookFault) → ValueOf k text o → Fine o
fine_value k text (Ok x) h = tt
fine_value k text (Err fault) (h, is) = subst IsOfBytes (sym is) tt

fine_read : (k : List ℕ) (r : Result Tree FormulaFault) → IsTold r → Fine (at_cell k r)
fine_read k (Ok e) t = tt
fine_read k (Err (BadToken place)) t = tt
fine_read k (Err (BadSyntax place)) t = tt
fine_read k (Err (TooDeep place)) t = tt
fine_read k (Err (TooLong size)) t = tt
fine_read k (Err (TooWide place)) t = tt
fine_read k (Err NoMemory) t = absurd t

fine_formula : (k text : List ℕ) (o : Result Item BookFault) → FormulaOf k text o → Fine o
fine_formula k text o (r, h, t, is) = subst Fine (sym is) (fine_read k r t)

fine_item : (k text : List ℕ) (o : Result Item BookFault) → ItemOf k text o → Fine o
fine_item k text o h = go (slice_index text 0 == 61) h
  where
    go : (b : Bool) → MatchBool b (FormulaOf k (drop 1 text) o) (ValueOf k text o) → Fine o
    go true h = fine_formula k (drop 1 text) o h
    go false h = fine_value k text o h

fine_put : (k : List ℕ) (m : Content) (r : Result Item BookFault) → Fine r → Fine (put k m r)
fine_put k m (Ok x) h = tt
fine_put k m (Err fault) h = h

fine_into : (k text : List ℕ) (m : Content) (o : Result Content BookFault) → ItemInto k text m o → Fine o
fine_into k text m o (r, h, is) = subst Fine (sym is) (fine_put k m r (fine_item k text r h))

fine_filled : (k field : List ℕ) (m : Content) (o : Result Content BookFault) → FilledInto k field m o → Fine o
fine_filled k field m o h = then (text_of k field) (λ text. ItemInto k text m) (fine_text k field) (λ text. fine_into k text m) o h

fine_field : (r c : ℕ) (field : List ℕ) (m : Content) (o : Result Content BookFault) → FieldInto r c field m o → Fine o
fine_field r c [] m o h = subst Fine (sym h) tt
fine_field r c (b ∷ bs) m o h = then (cell_of r c) (λ k. FilledInto k (b ∷ bs) m) (fine_cell r c) (λ k. fine_filled k (b ∷ bs) m) o h

fine_fields : (r c : ℕ) (fields : List (List ℕ)) (m : Content) (o : Result Content BookFault) → FieldsInto r c fields m o → Fine o
fine_fields r c [] m o h = subst Fine (sym h) tt
fine_fields r c (f ∷ fs) m o (x, is, h) = then x (FieldsInto r (c + 1) fs) (fine_field r c f m x is) (fine_fields r (c + 1) fs) o h

fine_rows : (r : ℕ) (rows : List (List (List ℕ))) (m : Content) (o : Result Content BookFault) → RowsInto r rows m o → Fine o
fine_rows r [] m o h = subst Fine (sym h) tt
fine_rows r (fs ∷ rows) m o (x, is, h) = then x (RowsInto (r + 1) rows) (fine_fields r 1 fs m x is) (fine_rows (r + 1) rows) o h

bound : {A B : Type 0} (r : Result A BookFault) (f : A → Result B BookFault) → Fine r → ((a : A) → Fine (f a)) → Fine (r >>= f)
bound (Ok a) f h g = g a
bound (Err fault) f h g = h

fine_book : (m : Content) → Fine (book_of m)
fine_book m = either (nat_lt 262144 (length (entries m))) _ _ tt tt

fine_in : (rows : List (List (List ℕ))) (o : Result Book BookFault) → InRows rows o → Fine o
fine_in rows o (r, h, is) = subst Fine (sym is) (bound r book_of (fine_rows 1 rows empty r h) fine_book)

fine_of : (bytes : List ℕ) → Fine (rows_of bytes)
fine_of bytes = either (nat_lt 16777216 (length bytes)) _ _ tt tt

pub of_bytes : (bytes : List ℕ) (fault : BookFault) → BookOf bytes (Err fault) → IsOfBytes fault
of_bytes bytes fault h = then (rows_of bytes) InRows (fine_of bytes) fine_in (Err fault) h
