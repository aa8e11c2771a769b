-- Bytes have one outcome at most.
use Rattle.std.proofs.Common.{◌≡◌, ℕ, ℤ, ◌<◌, ◌==◌, ◌+◌, Bool, true, false, List, [], ◌∷◌, length, drop, Result, Ok, Err, ap, sym, ◌∙◌, subst, arith}
use Rattle.std.specs.Prelude.{MatchBool, slice_index}
use Rattle.std.specs.FinMap.{empty}
use Rattle.carte_name.specs.declared.kind.Kind.TheVariants.{Sheet}
use Rattle.carte_value.specs.declared.value.Value.{Value}
use Rattle.carte_value.specs.declared.value.Value.TheVariants.{Number, Text, Empty, Bad}
use Rattle.carte_formula.proofs.Round.{one_reading}
use Rattle.carte_book.specs.Book.{Item, Book, input}
use Rattle.carte_book.specs.declared.fault.BookFault.{BookFault}
use Rattle.carte_sheet.specs.Reading.{◌>>=◌, Content, Then, cell_of, text_of, ValueAt, ValueOf, at_cell, FormulaOf, ItemOf, put, ItemInto, FilledInto, FieldInto, FieldsInto, RowsInto, book_of, InRows, rows_of, BookOf}

one_then : {A B : Type 0} (r : Result A BookFault) (P : A → Result B BookFault → Type 0) → ((a : A) (o p : Result B BookFault) → P a o → P a p → o ≡ p) → (o p : Result B BookFault) → Then r P o → Then r P p → o ≡ p
one_then (Ok a) P one o p h k = one a o p h k
one_then (Err fault) P one o p h k = h ∙ sym k

one_value : (text : List ℕ) (v w : Value) → ValueAt text v → ValueAt text w → v ≡ w
one_value text (Number n) (Number m) h g = ap Number (h.2 ∙ sym g.2)
one_value text (Number n) (Text t) h g = absurd (g.0 n h)
one_value text (Number n) Empty h g = absurd g
one_value text (Number n) (Bad b) h g = absurd g
one_value text (Text t) (Number n) h g = absurd (h.0 n g)
one_value text (Text t) (Text u) h g = ap Text (h.2 ∙ sym g.2)
one_value text (Text t) Empty h g = absurd g
one_value text (Text t) (Bad b) h g = absurd g
one_value text Empty w h g = absurd h
one_value text (Bad b) w h g = absurd h

not_too_long : (text : List ℕ) (v : Value) → ValueAt text v → ((n : ℤ) → ¬ (ValueAt text (Number n))) → ¬ (65536 < length text)
not_too_long text (Number n) h none long = none n h
not_too_long text (Text t) h none long = omega (arith, h.1, long)
not_too_long text Empty h none long = h
not_too_long text (Bad b) h none long = h

one_input : (k text : List ℕ) (o p : Result Item BookFault) → ValueOf k text o → ValueOf k text p → o ≡ p
one_input k text (Ok x) (Ok y) (v, h, is) (w, g, js) = ap Ok (is ∙ ap input (one_value text v w h g) ∙ sym js)
one_input k text (Ok x) (Err fault) (v, h, is) (g, js) = absurd (not_too_long text v h g.0 g.1)
one_input k text (Err fault) (Ok y) (h, is) (w, g, js) = absurd (not_too_long text w g h.0 h.1)
one_input k text (Err fault) (Err other) (h, is) (g, js) = ap Err (is ∙ sym js)

one_formula : (k text : List ℕ) (o p : Result Item BookFault) → FormulaOf k text o → FormulaOf k text p → o ≡ p
one_formula k text o p (r, h, t, is) (s, g, u, js) = is ∙ ap (at_cell k) (one_reading Sheet text r s h g t u) ∙ sym js

one_item : (k text : List ℕ) (o p : Result Item BookFault) → ItemOf k text o → ItemOf k text p → o ≡ p
one_item k text o p h g = go (slice_index text 0 == 61) h g
  where
    go : (b : Bool) → MatchBool b (FormulaOf k (drop 1 text) o) (ValueOf k text o) → MatchBool b (FormulaOf k (drop 1 text) p) (ValueOf k text p) → o ≡ p
    go true h g = one_formula k (drop 1 text) o p h g
    go false h g = one_input k text o p h g

one_into : (k text : List ℕ) (m : Content) (o p : Result Content BookFault) → ItemInto k text m o → ItemInto k text m p → o ≡ p
one_into k text m o p (r, h, is) (s, g, js) = is ∙ ap (put k m) (one_item k text r s h g) ∙ sym js

one_filled : (k field : List ℕ) (m : Content) (o p : Result Content BookFault) → FilledInto k field m o → FilledInto k field m p → o ≡ p
one_filled k field m o p h g = one_then (text_of k field) (λ text. ItemInto k text m) (λ text. one_into k text m) o p h g

one_field : (r c : ℕ) (field : List ℕ) (m : Content) (o p : Result Content BookFault) → FieldInto r c field m o → FieldInto r c field m p → o ≡ p
one_field r c [] m o p h g = h ∙ sym g
one_field r c (b ∷ bs) m o p h g = one_then (cell_of r c) (λ k. FilledInto k (b ∷ bs) m) (λ k. one_filled k (b ∷ bs) m) o p h g

one_row : (r c : ℕ) (fields : List (List ℕ)) (m : Content) (o p : Result Content BookFault) → FieldsInto r c fields m o → FieldsInto r c fields m p → o ≡ p
one_row r c [] m o p h g = h ∙ sym g
one_row r c (f ∷ fs) m o p (x, is, h) (y, js, g) =
    let next : Content → Result Content BookFault → Type 0 = FieldsInto r (c + 1) fs in
    let same : y ≡ x = one_field r c f m y x js is in
    one_then x next (one_row r (c + 1) fs) o p h (subst (λ (z : Result Content BookFault). Then z next p) same g)

one_rows : (r : ℕ) (rows : List (List (List ℕ))) (m : Content) (o p : Result Content BookFault) → RowsInto r rows m o → RowsInto r rows m p → o ≡ p
one_rows r [] m o p h g = h ∙ sym g
one_rows r (fs ∷ rows) m o p (x, is, h) (y, js, g) =
    let next : Content → Result Content BookFault → Type 0 = RowsInto (r + 1) rows in
    let same : y ≡ x = one_row r 1 fs m y x js is in
    one_then x next (one_rows (r + 1) rows) o p h (subst (λ (z : Result Content BookFault). Then z next p) same g)

in_rows : (rows : List (List (List ℕ))) (o p : Result Book BookFault) → InRows rows o → InRows rows p → o ≡ p
in_rows rows o p (r, h, is) (s, g, js) = is ∙ ap (λ (x : Result Content BookFault). x >>= book_of) (one_rows 1 rows empty r s h g) ∙ sym js

pub one_sheet : (bytes : List ℕ) (o p : Result Book BookFault) → BookOf bytes o → BookOf bytes p → o ≡ p
one_sheet bytes o p h g = one_then (rows_of bytes) InRows in_rows o p h g
