-- Which bytes are a sheet, and which book it is. Rows and columns are counted from 1.
use Rattle.std.specs.Prelude.{ℕ, ℤ, pos, negsuc, Bool, ◌≡◌, ◌<◌, ◌≤◌, ◌+◌, ◌^◌, ◌==◌, ◌&&◌, nat_lt, List, [], ◌∷◌, length, drop, slice_index, MatchBool, Result, Ok, Err, if◌then◌else◌}
use Rattle.std.specs.Str.{is_utf8}
use Rattle.std.specs.Char.{digit_value}
use Rattle.std.specs.Str.Parse.{without_leading_sign, signed_digits_value}
use Rattle.std.specs.List.{list_all, starts_with}
use Rattle.std.specs.FinMap.{FinMap, insert, empty}
use Rattle.csv.specs.Reading.{default_config, records, strip_bom}
use Rattle.carte_name.specs.declared.kind.Kind.TheVariants.{Sheet}
use Rattle.carte_value.specs.declared.value.Value.{Value}
use Rattle.carte_value.specs.declared.value.Value.TheVariants.{Number, Text, Empty, Bad}
use Rattle.carte_name.specs.Places.{cell_at}
use Rattle.carte_name.specs.Names.{name_cmp}
use Rattle.carte_value.specs.Reading.{IsNumberText}
use Rattle.carte_tree.specs.Tree.{Tree}
use Rattle.carte_tree.specs.declared.fault.FormulaFault.{FormulaFault}
use Rattle.carte_formula.specs.Whole.{Reads, IsTold, reading}
use Rattle.carte_book.specs.Book.{Item, input, rule, Book, book_view}
use Rattle.carte_book.specs.Drafts as drafts
use Rattle.carte_book.specs.declared.book.Book.{Book as CodeBook}
use Rattle.carte_book.specs.declared.fault.Which.TheVariants.{Bytes, Rows, Columns}
use Rattle.carte_book.specs.declared.fault.BookFault.{BookFault}
use Rattle.carte_book.specs.declared.fault.BookFault.TheVariants.{Limit, BadValue, Formula, NotUtf8, NoMemory}

abbrev pub Content : Type 0
Content = FinMap name_cmp Item

-- a fault is the end, and else it goes on
infixl 10 ◌>>=◌
abbrev pub ◌>>=◌ : {A B : Type 0} → Result A BookFault → (A → Result B BookFault) → Result B BookFault
(Ok a) >>= f = f a
(Err fault) >>= f = Err fault

abbrev pub Then : {A B : Type 0} → Result A BookFault → (A → Result B BookFault → Type 0) → Result B BookFault → Type 0
Then (Ok a) P o = P a o
Then (Err fault) P o = o ≡ Err fault

-- ---- a field

-- the cell at its place
abbrev pub cell_of : ℕ → ℕ → Result (List ℕ) BookFault
cell_of r c = if nat_lt 9999 r then Err (Limit Rows 9999) else (if nat_lt 702 c then Err (Limit Columns 702) else Ok (cell_at c r))

-- the field is UTF-8
abbrev pub text_of : List ℕ → List ℕ → Result (List ℕ) BookFault
text_of k field = if is_utf8 field then Ok field else Err (NotUtf8 k)

abbrev pub NoNumber : List ℕ → Type 0
NoNumber text = (n : ℤ) → ¬ (IsNumberText text n)

-- what is a number is one, and every other field a text
abbrev pub ValueAt : List ℕ → Value → Type 0
ValueAt text (Number n) = IsNumberText text n
ValueAt text (Text t) = NoNumber text × (length text ≤ 65536) × (t ≡ text)
ValueAt text Empty = ⊥
ValueAt text (Bad b) = ⊥

abbrev pub IsTooLong : List ℕ → Type 0
IsTooLong text = NoNumber text × (65536 < length text)

abbrev pub ValueOf : List ℕ → List ℕ → Result Item BookFault → Type 0
ValueOf k text (Ok x) = (v : Value) × ValueAt text v × (x ≡ input v)
ValueOf k text (Err fault) = IsTooLong text × (fault ≡ BadValue k)

abbrev pub at_cell : List ℕ → Result Tree FormulaFault → Result Item BookFault
at_cell k (Ok e) = Ok (rule e)
at_cell k (Err fault) = Err (Formula k fault)

-- what the text is read as, where there is memory
abbrev pub FormulaOf : List ℕ → List ℕ → Result Item BookFault → Type 0
FormulaOf k text o = (r : Result Tree FormulaFault) × Reads Sheet text r × IsTold r × (o ≡ at_cell k r)

-- a rule behind `=`, and else an input
abbrev pub ItemOf : List ℕ → List ℕ → Result Item BookFault → Type 0
ItemOf k text o = MatchBool (slice_index text 0 == 61) (FormulaOf k (drop 1 text) o) (ValueOf k text o)

abbrev pub put : List ℕ → Content → Result Item BookFault → Result Content BookFault
put k m (Ok x) = Ok (insert m k x)
put k m (Err fault) = Err fault

abbrev pub ItemInto : List ℕ → List ℕ → Content → Result Content BookFault → Type 0
ItemInto k text m o = (r : Result Item BookFault) × ItemOf k text r × (o ≡ put k m r)

abbrev pub FilledInto : List ℕ → List ℕ → Content → Result Content BookFault → Type 0
FilledInto k field m o = Then (text_of k field) (λ text. ItemInto k text m) o

-- an empty field makes no key
abbrev pub FieldInto : ℕ → ℕ → List ℕ → Content → Result Content BookFault → Type 0
FieldInto r c [] m o = o ≡ Ok m
FieldInto r c (b ∷ bs) m o = Then (cell_of r c) (λ k. FilledInto k (b ∷ bs) m) o

-- ---- all of them

abbrev pub FieldsInto : ℕ → ℕ → List (List ℕ) → Content → Result Content BookFault → Type 0
FieldsInto r c [] m o = o ≡ Ok m
FieldsInto r c (f ∷ fs) m o = (x : Result Content BookFault) × FieldInto r c f m x × Then x (FieldsInto r (c + 1) fs) o

-- all fields of a row
abbrev pub RowInto : ℕ → List (List ℕ) → Content → Result Content BookFault → Type 0
RowInto r fields m o = FieldsInto r 1 fields m o

abbrev pub RowsInto : ℕ → List (List (List ℕ)) → Content → Result Content BookFault → Type 0
RowsInto r [] m o = o ≡ Ok m
RowsInto r (fs ∷ rows) m o = (x : Result Content BookFault) × RowInto r fs m x × Then x (RowsInto (r + 1) rows) o

-- at most 262,144 keys
abbrev pub book_of : Content → Result Book BookFault
book_of m = drafts.book_of Sheet m

-- the number of keys comes last
abbrev pub InRows : List (List (List ℕ)) → Result Book BookFault → Type 0
InRows rows o = (r : Result Content BookFault) × RowsInto 1 rows empty r × (o ≡ (r >>= book_of))

-- ---- bytes

abbrev pub mark : List ℕ
mark = 239 ∷ 187 ∷ 191 ∷ []

-- without a byte order mark in front
abbrev pub without_mark : List ℕ → List ℕ
without_mark bytes = if starts_with ◌==◌ bytes mark then drop 3 bytes else bytes

-- the records of a text are those that `csv` gives, which passes over such a mark too
unfoldable pub records_of : List ℕ → List (List (List ℕ))
records_of text = records default_config (strip_bom text)

abbrev pub rows_of : List ℕ → Result (List (List (List ℕ))) BookFault
rows_of bytes = if nat_lt 16777216 (length bytes) then Err (Limit Bytes 16777216) else Ok (records_of (without_mark bytes))

-- the book that bytes are, or the first fault why they are none
abbrev pub BookOf : List ℕ → Result Book BookFault → Type 0
BookOf bytes o = Then (rows_of bytes) InRows o

-- ---- the same as functions

-- digits behind a sign or none, whose value fits i64
abbrev pub fits_i64 : ℤ → Bool
fits_i64 (pos n) = nat_lt n (2 ^ 63)
fits_i64 (negsuc n) = nat_lt n (2 ^ 63)

abbrev pub is_number : List ℕ → Bool
is_number text = (nat_lt 0 (length (without_leading_sign text)) && list_all (λ d. nat_lt (digit_value d) 10) (without_leading_sign text)) && fits_i64 (signed_digits_value 10 text)

abbrev pub value_in : List ℕ → List ℕ → Result Item BookFault
value_in k text = if is_number text then Ok (input (Number (signed_digits_value 10 text))) else (if nat_lt 65536 (length text) then Err (BadValue k) else Ok (input (Text text)))

abbrev pub item_in : List ℕ → List ℕ → Result Item BookFault
item_in k text = if slice_index text 0 == 61 then at_cell k (reading Sheet (drop 1 text)) else value_in k text

abbrev pub field_in : ℕ → ℕ → List ℕ → Content → Result Content BookFault
field_in r c [] m = Ok m
field_in r c (b ∷ bs) m = cell_of r c >>= (λ k. text_of k (b ∷ bs) >>= (λ text. put k m (item_in k text)))

abbrev pub fields_in : ℕ → ℕ → List (List ℕ) → Content → Result Content BookFault
fields_in r c [] m = Ok m
fields_in r c (f ∷ fs) m = field_in r c f m >>= fields_in r (c + 1) fs

abbrev pub rows_in : ℕ → List (List (List ℕ)) → Content → Result Content BookFault
rows_in r [] m = Ok m
rows_in r (fs ∷ rows) m = fields_in r 1 fs m >>= rows_in (r + 1) rows

abbrev pub sheet_in : List ℕ → Result Book BookFault
sheet_in bytes = rows_of bytes >>= (λ rows. rows_in 1 rows empty >>= book_of)

-- ---- what a reader answers: that, but that memory may run out for bytes that aren't too many

abbrev pub IsRead : List ℕ → Result CodeBook BookFault → Type 0
IsRead bytes (Ok b) = BookOf bytes (Ok (book_view b))
IsRead bytes (Err NoMemory) = length bytes ≤ 16777216
IsRead bytes (Err fault) = BookOf bytes (Err fault)
