-- Values as numbers, texts and booleans, and the rule of bad values.
use Rattle.std.specs.Prelude.{ℕ, ℤ, pos, negsuc, zero, Bool, true, false, List, [], ◌∷◌, Option, Some, None, length, nat_lt, nat_le, ◌^◌, if◌then◌else◌}
use Rattle.std.specs.Fmt.{signed_decimal}
use Rattle.carte_value.specs.declared.value.Bad.{Bad as BadValue}
use Rattle.carte_value.specs.declared.value.Bad.TheVariants as bad
use Rattle.carte_value.specs.declared.value.Value.{Value}
use Rattle.carte_value.specs.declared.value.Value.TheVariants.{Empty, Number, Text, Bad}

abbrev pub fits_i64 : ℤ → Bool
fits_i64 (pos n) = nat_lt n (2 ^ 63)
fits_i64 (negsuc n) = nat_lt n (2 ^ 63)

-- a number, where it fits i64
abbrev pub number_value : ℤ → Value
number_value n = if fits_i64 n then Number n else Bad bad.Num

-- a text, where it is short enough
abbrev pub text_value : List ℕ → Value
text_value t = if nat_le (length t) 65536 then Text t else Bad bad.Len

abbrev pub bool_value : Bool → Value
bool_value true = Number (pos 1)
bool_value false = Number (pos 0)

-- None where the kind is wrong
abbrev pub as_number : Value → Option ℤ
as_number Empty = Some (pos 0)
as_number (Number n) = Some n
as_number (Text t) = None
as_number (Bad b) = None

abbrev pub is_nonzero : ℤ → Bool
is_nonzero (pos zero) = false
is_nonzero n = true

abbrev pub as_bool : Value → Option Bool
as_bool Empty = Some false
as_bool (Number n) = Some (is_nonzero n)
as_bool (Text t) = None
as_bool (Bad b) = None

-- each value but a bad one is a text; a bad one is the result before it is read as one
abbrev pub text_of : Value → List ℕ
text_of Empty = []
text_of (Number n) = signed_decimal n
text_of (Text t) = t
text_of (Bad b) = []

-- the first bad value, in order
abbrev pub first_bad : List Value → Option BadValue
first_bad [] = None
first_bad (Bad b ∷ vs) = Some b
first_bad (v ∷ vs) = first_bad vs

abbrev pub unless_bad : Option BadValue → Value → Value
unless_bad (Some b) v = Bad b
unless_bad None v = v

-- the first bad value, and only where there is none what `g` makes of the values
abbrev pub strict : (List Value → Value) → List Value → Value
strict g vs = unless_bad (first_bad vs) (g vs)

-- what `g` makes of what could be read
abbrev pub or_wrong : {A : Type 0} → Option A → (A → Value) → Value
or_wrong None g = Bad bad.Value
or_wrong (Some a) g = g a

abbrev pub both : {A : Type 0} → Option A → Option (List A) → Option (List A)
both None xs = None
both (Some a) None = None
both (Some a) (Some xs) = Some (a ∷ xs)

-- all of a list, where each can be read
abbrev pub each_as : {A B : Type 0} → (A → Option B) → List A → Option (List B)
each_as read [] = Some []
each_as read (x ∷ xs) = both (read x) (each_as read xs)

-- of one argument, and of two; the grammar lets no other number of them through
abbrev pub one : (Value → Value) → List Value → Value
one g (v ∷ []) = g v
one g vs = Empty

abbrev pub two : (Value → Value → Value) → List Value → Value
two g (v ∷ w ∷ []) = g v w
two g vs = Empty

-- of two numbers: the wrong kind of either is the same
abbrev pub numbers : (ℤ → ℤ → Value) → Value → Value → Value
numbers g v w = or_wrong (as_number v) (λ m. or_wrong (as_number w) (λ n. g m n))
