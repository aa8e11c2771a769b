-- Bytes have an outcome: that which the functions give.
use Rattle.std.proofs.Common.{◌≡◌, ℕ, ℤ, pos, negsuc, ◌+◌, ◌≤◌, ◌==◌, ◌&&◌, cond, Bool, true, false, nat_lt, List, [], ◌∷◌, length, drop, Result, Ok, Err, refl, sym, ◌∙◌, subst, arith, FitsSigned, w64}
use Rattle.std.specs.Prelude.{MatchBool, slice_index}
use Rattle.std.specs.Char.{digit_value}
use Rattle.std.specs.List.{list_all}
use Rattle.std.specs.Str.Parse.{AllDigits, without_leading_sign, signed_digits_value}
use Rattle.std.specs.FinMap.{empty}
use Rattle.std.proofs.lemmas.Bool.{false≢true, ltb-true, lt-ltb}
use Rattle.std.proofs.lemmas.Bool.Decides.{nat_tests}
use Rattle.carte_value.specs.Reading.{IsNumberText}
use Rattle.carte_name.specs.declared.kind.Kind.TheVariants.{Sheet}
use Rattle.carte_value.specs.declared.value.Value.TheVariants.{Number, Text}
use Rattle.carte_formula.specs.Whole.{reading}
use Rattle.carte_formula.proofs.Round.{reads_reading, told_reading}
use Rattle.carte_book.specs.Book.{Item, input}
use Rattle.carte_book.specs.declared.fault.BookFault.{BookFault}
use Rattle.carte_book.specs.declared.fault.BookFault.TheVariants.{BadValue}
use Rattle.carte_sheet.specs.Reading.{◌>>=◌, Content, Then, NoNumber, cell_of, text_of, ValueOf, at_cell, FormulaOf, ItemOf, put, ItemInto, FilledInto, FieldInto, FieldsInto, RowsInto, book_of, InRows, rows_of, BookOf, fits_i64, is_number, value_in, item_in, field_in, fields_in, rows_in, sheet_in}

not_above : (a b : ℕ) → nat_lt a b ≡ false → b ≤ a
not_above a b e = grind (arith, nat_tests)

-- ---- numbers

both : (a b : Bool) → (a && b) ≡ true → (a ≡ true) × (b ≡ true)
both true b e = (refl, e)
both false b e = absurd (false≢true e)

digits_from : (ds : List ℕ) → list_all (λ d. nat_lt (digit_value d) 10) ds ≡ true → AllDigits 10 ds
digits_from [] e = tt
digits_from (d ∷ ds) e = let parts = both _ _ e in (ltb-true _ _ parts.0, digits_from ds parts.1)

digits_back : (ds : List ℕ) → AllDigits 10 ds → list_all (λ d. nat_lt (digit_value d) 10) ds ≡ true
digits_back [] h = refl
digits_back (d ∷ ds) h = rw (lt-ltb (digit_value d) 10 h.0) (digits_back ds h.1)

fits_from : (z : ℤ) → fits_i64 z ≡ true → FitsSigned w64 z
fits_from (pos n) e = record { sfits = ltb-true _ _ e }
fits_from (negsuc n) e = record { sfits = ltb-true _ _ e }

fits_back : (z : ℤ) → FitsSigned w64 z → fits_i64 z ≡ true
fits_back (pos n) h = lt-ltb _ _ h.sfits
fits_back (negsuc n) h = lt-ltb _ _ h.sfits

number_from : (text : List ℕ) → is_number text ≡ true → IsNumberText text (signed_digits_value 10 text)
number_from text e =
    let parts = both _ _ e in
    let numeral = both _ _ parts.0 in
    ((ltb-true _ _ numeral.0, digits_from (without_leading_sign text) numeral.1), fits_from (signed_digits_value 10 text) parts.1, refl)

number_back : (text : List ℕ) (n : ℤ) → IsNumberText text n → is_number text ≡ true
number_back text n h =
    let fits = subst (FitsSigned w64) h.2 h.1 in
    rw (lt-ltb 0 (length (without_leading_sign text)) h.0.0, digits_back (without_leading_sign text) h.0.1, fits_back (signed_digits_value 10 text) fits) refl

no_number : (text : List ℕ) → is_number text ≡ false → NoNumber text
no_number text e = λ n h. false≢true (sym e ∙ number_back text n h)

-- ---- a field

value_some : (k text : List ℕ) → ValueOf k text (value_in k text)
value_some k text = go (is_number text) refl (nat_lt 65536 (length text)) refl
  where
    go : (a : Bool) → is_number text ≡ a → (b : Bool) → nat_lt 65536 (length text) ≡ b
        → ValueOf k text (cond a (Ok (input (Number (signed_digits_value 10 text)))) (cond b (Err (BadValue k)) (Ok (input (Text text)))))
    go true is b e = (Number (signed_digits_value 10 text), number_from text is, refl)
    go false is true e = ((no_number text is, ltb-true 65536 (length text) e), refl)
    go false is false e = (Text text, (no_number text is, not_above 65536 (length text) e, refl), refl)

formula_some : (k text : List ℕ) → FormulaOf k text (at_cell k (reading Sheet text))
formula_some k text = (reading Sheet text, reads_reading Sheet text, told_reading Sheet text, refl)

item_some : (k text : List ℕ) → ItemOf k text (item_in k text)
item_some k text = go (slice_index text 0 == 61)
  where
    go : (b : Bool) → (λ (o : Result Item BookFault). MatchBool b (FormulaOf k (drop 1 text) o) (ValueOf k text o)) (cond b (at_cell k (reading Sheet (drop 1 text))) (value_in k text))
    go true = formula_some k (drop 1 text)
    go false = value_some k text

then_some : {A B : Type 0} (r : Result A BookFault) (f : A → Result B BookFault) (P : A → Result B BookFault → Type 0) → ((a : A) → P a (f a)) → Then r P (r >>= f)
then_some (Ok a) f P h = h a
then_some (Err fault) f P h = refl

into_some : (k text : List ℕ) (m : Content) → ItemInto k text m (put k m (item_in k text))
into_some k text m = (item_in k text, item_some k text, refl)

filled_some : (k field : List ℕ) (m : Content) → FilledInto k field m (text_of k field >>= (λ text. put k m (item_in k text)))
filled_some k field m = then_some (text_of k field) (λ text. put k m (item_in k text)) (λ text. ItemInto k text m) (λ text. into_some k text m)

field_some : (r c : ℕ) (field : List ℕ) (m : Content) → FieldInto r c field m (field_in r c field m)
field_some r c [] m = refl
field_some r c (b ∷ bs) m = then_some (cell_of r c) (λ k. text_of k (b ∷ bs) >>= (λ text. put k m (item_in k text))) (λ k. FilledInto k (b ∷ bs) m) (λ k. filled_some k (b ∷ bs) m)

-- ---- all of them

fields_some : (r c : ℕ) (fields : List (List ℕ)) (m : Content) → FieldsInto r c fields m (fields_in r c fields m)
fields_some r c [] m = refl
fields_some r c (f ∷ fs) m = (field_in r c f m, field_some r c f m, then_some (field_in r c f m) (fields_in r (c + 1) fs) (FieldsInto r (c + 1) fs) (fields_some r (c + 1) fs))

rows_some : (r : ℕ) (rows : List (List (List ℕ))) (m : Content) → RowsInto r rows m (rows_in r rows m)
rows_some r [] m = refl
rows_some r (fs ∷ rows) m = (fields_in r 1 fs m, fields_some r 1 fs m, then_some (fields_in r 1 fs m) (rows_in (r + 1) rows) (RowsInto (r + 1) rows) (rows_some (r + 1) rows))

book_some : (rows : List (List (List ℕ))) → InRows rows (rows_in 1 rows empty >>= book_of)
book_some rows = (rows_in 1 rows empty, rows_some 1 rows empty, refl)

pub sheet_some : (bytes : List ℕ) → BookOf bytes (sheet_in bytes)
sheet_some bytes = then_some (rows_of bytes) (λ rows. rows_in 1 rows empty >>= book_of) InRows book_some
