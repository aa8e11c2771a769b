-- Digits, letters and names, byte by byte.
use Rattle.std.proofs.Common.{ℕ, Bool, true, false, List, [], ◌∷◌, length, ◌≡◌, ◌≤◌, ◌<◌, ◌^◌, ◌&&◌, ◌||◌, ◌==◌, if◌then◌else◌, refl, arith, nat_le, slice_index, map}
use Rattle.std.specs.Fmt.{decimal}
use Rattle.std.specs.List.{list_all}
use Rattle.std.specs.Char.{to_ascii_uppercase}
use Rattle.std.specs.Str.{str_to_ascii_uppercase}
use Rattle.std.specs.Str.Parse.{digits_value}
use Rattle.std.proofs.lemmas.Bool.{lt-ltb, leb-true, le-leb}
use Rattle.std.proofs.lemmas.Bool.Decides.{nat_tests}
use Rattle.std.proofs.lemmas.Str.Parse.{IsDigitsTest, IsNumeralModel, numerals_by_value}
use Rattle.std.proofs.lemmas.Fmt.{digits_decimal, digits_value-decimal, decimal_nonempty}
use Rattle.carte_name.specs.Names.{is_rule_name, is_cell_name, is_row, is_digit, is_lower, is_upper, is_name_byte}

pub and_left : (a b : Bool) → (a && b) ≡ true → a ≡ true
and_left true b h = refl
and_left false b h = h

pub and_right : (a b : Bool) → (a && b) ≡ true → b ≡ true
and_right true b h = h
and_right false b h = absurd (let z : ⊥ = cc in z)

pub and_both : (a b : Bool) → a ≡ true → b ≡ true → (a && b) ≡ true
and_both a b h k = rw (h, k) refl

pub or_true : (a b : Bool) → b ≡ true → (a || b) ≡ true
or_true true b h = refl
or_true false b h = h

pub or_left : (a b : Bool) → a ≡ true → (a || b) ≡ true
or_left true b h = refl
or_left false b h = absurd (let z : ⊥ = cc in z)

-- between two bytes, or not
pub within : (lo hi b : ℕ) → (nat_le lo b && nat_le b hi) ≡ true → (lo ≤ b) × (b ≤ hi)
within lo hi b h = (leb-true lo b (and_left (nat_le lo b) (nat_le b hi) h), leb-true b hi (and_right (nat_le lo b) (nat_le b hi) h))

pub between : (lo hi b : ℕ) → lo ≤ b → b ≤ hi → (nat_le lo b && nat_le b hi) ≡ true
between lo hi b h k = and_both (nat_le lo b) (nat_le b hi) (le-leb lo b h) (le-leb b hi k)

pub below : (lo hi b : ℕ) → b < lo → (nat_le lo b && nat_le b hi) ≡ false
below lo hi b h = grind (arith, nat_tests)

pub above : (lo hi b : ℕ) → hi < b → (nat_le lo b && nat_le b hi) ≡ false
above lo hi b h = grind (arith, nat_tests)

-- the bytes of names, by two looks at those up to `9`
pub low_name : (b : ℕ) → b ≤ 57 → nat_le 46 b ≡ is_name_byte b
low_name b h = grind (arith, nat_tests)

pub high_name : (b : ℕ) → 57 < b → (is_lower b || b == 95) ≡ is_name_byte b
high_name b h = grind (arith, nat_tests)

pub digits_test : IsDigitsTest (λ ds. list_all is_digit ds ≡ true)
digits_test = record {
  empty = refl;
  parts = λ c cs h. (within 48 57 c (and_left (is_digit c) (list_all is_digit cs) h), and_right (is_digit c) (list_all is_digit cs) h);
  more = λ c cs r h. and_both (is_digit c) (list_all is_digit cs) (between 48 57 c r.0 r.1) h;
}

pub numerals : IsNumeralModel (λ ds. list_all is_digit ds ≡ true) (digits_value 10)
numerals = numerals_by_value (λ ds. list_all is_digit ds ≡ true) digits_test

pub decimal_all : (n : ℕ) → n < 2 ^ 63 → list_all is_digit (decimal n) ≡ true
decimal_all n h = digits_decimal numerals n (omega arith)

pub decimal_value : (n : ℕ) → n < 2 ^ 63 → digits_value 10 (decimal n) ≡ n
decimal_value n h = digits_value-decimal numerals n (omega arith)

pub decimal_some : (n : ℕ) → n < 2 ^ 63 → 0 < length (decimal n)
decimal_some n h = decimal_nonempty n (omega arith)

pub first_rest : (bs : List ℕ) → 0 < length bs → (b : ℕ) × (xs : List ℕ) × (bs ≡ b ∷ xs)
first_rest [] h = absurd (let z : ⊥ = omega arith in z)
first_rest (b ∷ xs) h = (b, xs, refl)

-- a cell's name has capitals and digits
abbrev pub is_cell_byte : ℕ → Bool
is_cell_byte b = is_upper b || is_digit b

digits_cell : (ds : List ℕ) → list_all is_digit ds ≡ true → list_all is_cell_byte ds ≡ true
digits_cell [] h = refl
digits_cell (b ∷ ds) h = and_both (is_cell_byte b) (list_all is_cell_byte ds) (or_true (is_upper b) (is_digit b) (and_left (is_digit b) (list_all is_digit ds) h)) (digits_cell ds (and_right (is_digit b) (list_all is_digit ds) h))

row_cell : (ds : List ℕ) → is_row ds ≡ true → list_all is_cell_byte ds ≡ true
row_cell ds h = digits_cell ds (and_right (nat_le 1 (length ds) && nat_le (length ds) 4) (list_all is_digit ds) (and_left ((nat_le 1 (length ds) && nat_le (length ds) 4) && list_all is_digit ds) (nat_le 49 (slice_index ds 0)) h))

cell_tail : (c : Bool) (b : ℕ) (ds : List ℕ) → is_upper b ≡ c → (if c then is_row ds else is_row (b ∷ ds)) ≡ true → list_all is_cell_byte (b ∷ ds) ≡ true
cell_tail true b ds is h = and_both (is_cell_byte b) (list_all is_cell_byte ds) (or_left (is_upper b) (is_digit b) is) (row_cell ds h)
cell_tail false b ds is h = row_cell (b ∷ ds) h

-- it begins with a capital, and goes on with capitals and digits
pub cell_parts : (k : List ℕ) → is_cell_name k ≡ true → (a : ℕ) × (xs : List ℕ) × (k ≡ a ∷ xs) × (is_upper a ≡ true) × (list_all is_cell_byte xs ≡ true)
cell_parts [] h = absurd (let z : ⊥ = cc in z)
cell_parts (a ∷ []) h = absurd (let k : false ≡ true = and_right (is_upper a) false h in let z : ⊥ = cc in z)
cell_parts (a ∷ b ∷ ds) h =
    (a, b ∷ ds, refl, and_left (is_upper a) (if is_upper b then is_row ds else is_row (b ∷ ds)) h, cell_tail (is_upper b) b ds refl (and_right (is_upper a) (if is_upper b then is_row ds else is_row (b ∷ ds)) h))

-- and stays as it is in upper case
raised_byte : (c d : Bool) (b : ℕ) → is_upper b ≡ c → is_digit b ≡ d → (c || d) ≡ true → to_ascii_uppercase b ≡ b
raised_byte true d b h k o = let w = within 65 90 b h in rw (lt-ltb b 97 (omega arith)) refl
raised_byte false true b h k o = let w = within 48 57 b k in rw (lt-ltb b 97 (omega arith)) refl
raised_byte false false b h k o = absurd (let z : ⊥ = cc in z)

raised_all : (xs : List ℕ) → list_all is_cell_byte xs ≡ true → map to_ascii_uppercase xs ≡ xs
raised_all [] h = refl
raised_all (b ∷ xs) h = rw (raised_byte (is_upper b) (is_digit b) b refl refl (and_left (is_cell_byte b) (list_all is_cell_byte xs) h), raised_all xs (and_right (is_cell_byte b) (list_all is_cell_byte xs) h)) refl

pub cell_raised : (a : ℕ) (xs : List ℕ) → is_upper a ≡ true → list_all is_cell_byte xs ≡ true → str_to_ascii_uppercase (a ∷ xs) ≡ a ∷ xs
cell_raised a xs h k = raised_all (a ∷ xs) (and_both (is_cell_byte a) (list_all is_cell_byte xs) (or_left (is_upper a) (is_digit a) h) k)

-- it begins with a small letter, and goes on with bytes of names
pub rule_parts : (k : List ℕ) → is_rule_name k ≡ true → (a : ℕ) × (xs : List ℕ) × (k ≡ a ∷ xs) × (is_lower a ≡ true) × (list_all is_name_byte xs ≡ true)
rule_parts [] h = absurd (let z : ⊥ = cc in z)
rule_parts (a ∷ xs) h = (
  a,
  xs,
  refl,
  and_right (nat_le 1 (length (a ∷ xs)) && nat_le (length (a ∷ xs)) 64) (is_lower a) (and_left ((nat_le 1 (length (a ∷ xs)) && nat_le (length (a ∷ xs)) 64) && is_lower a) (list_all is_name_byte (a ∷ xs)) h),
  and_right (is_name_byte a) (list_all is_name_byte xs) (and_right ((nat_le 1 (length (a ∷ xs)) && nat_le (length (a ∷ xs)) 64) && is_lower a) (list_all is_name_byte (a ∷ xs)) h),
)
