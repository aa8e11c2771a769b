-- Texts that are read as values.
use Rattle.std.specs.Prelude.{ℕ, ℤ, List, [], ◌∷◌, ◌++◌, ◌≡◌, ◌⊎◌, ⊤, length, codes, Option, Some, None, Result, Ok, Err, Vec, FitsSigned}
use Rattle.std.specs.Int.{w64}
use Rattle.std.specs.List.{flat_map}
use Rattle.std.specs.Str.Parse.{IsNumeral, without_leading_sign, signed_digits_value}
use Rattle.carte_value.specs.Printed.{escaped, quoted, printed}
use Rattle.carte_value.specs.Texts.{IsText}
use Rattle.carte_value.specs.Spelling.{IsValue}
use Rattle.carte_name.specs.declared.NoMemory.{NoMemory}
use Rattle.carte_value.specs.declared.value.Bad.{Bad}
use Rattle.carte_value.specs.declared.value.Value.{Value}
use Rattle.carte_value.specs.declared.value.Value.TheVariants as value

-- one or more digits, with a sign before them or without one, whose value fits i64
abbrev pub IsNumberText : List ℕ → ℤ → Type 0
IsNumberText text n = IsNumeral 10 (without_leading_sign text) × FitsSigned w64 n × (n ≡ signed_digits_value 10 text)

-- the text is read as this value: it is a number, or the printed form of Empty or a text
abbrev pub Reads : List ℕ → Value → Type 0
Reads text value.Empty = text ≡ codes "empty"
Reads text (value.Number n) = IsNumberText text n
Reads text (value.Text t) = IsText t × (text ≡ quoted t)
Reads text (value.Bad b) = ⊥

abbrev pub IsRead : List ℕ → Result (Option Value) NoMemory → Type 0
IsRead text (Ok (Some v)) = Reads text v
IsRead text (Ok None) = (v : Value) → ¬ (Reads text v)
IsRead text (Err e) = ⊤

abbrev pub IsNumberRead : List ℕ → Option ℤ → Type 0
IsNumberRead text (Some n) = IsNumberText text n
IsNumberRead text None = (n : ℤ) → ¬ (IsNumberText text n)

-- the byte stands for itself between quotes
abbrev pub IsPlain : ℕ → Type 0
IsPlain b = escaped b ≡ b ∷ []

-- what stands between quotes is escaped bytes
abbrev pub IsBetweenQuotes : List ℕ → Option (List ℕ) → Type 0
IsBetweenQuotes text (Some body) = text ≡ 34 ∷ (body ++ 34 ∷ [])
IsBetweenQuotes text None = (body : List ℕ) → ¬ (text ≡ 34 ∷ (body ++ 34 ∷ []))

abbrev pub IsByteAhead : List ℕ → Option (ℕ × ℕ) → Type 0
IsByteAhead bytes (Some (b, n)) = (n ≡ length (escaped b)) × (rest : List ℕ) × (bytes ≡ escaped b ++ rest)
IsByteAhead bytes None = (b : ℕ) (rest : List ℕ) → ¬ (bytes ≡ escaped b ++ rest)

abbrev pub IsUnescaped : {Z : Type 0} → List ℕ → Result (Option (Vec ℕ Z)) NoMemory → Type 0
IsUnescaped body (Ok (Some bytes)) = body ≡ flat_map escaped bytes.items
IsUnescaped body (Ok None) = (bytes : List ℕ) → ¬ (body ≡ flat_map escaped bytes)
IsUnescaped body (Err e) = ⊤

abbrev pub IsTextRead : List ℕ → Result (Option (List ℕ)) NoMemory → Type 0
IsTextRead text (Ok (Some t)) = IsText t × (text ≡ quoted t)
IsTextRead text (Ok None) = (t : List ℕ) → IsText t → ¬ (text ≡ quoted t)
IsTextRead text (Err e) = ⊤

-- a text is read as one value at most
abbrev pub OneReading : Type 0
OneReading = (text : List ℕ) (v w : Value) → Reads text v → Reads text w → v ≡ w

-- what was printed is read as the value, bad values aside
abbrev pub PrintedReads : Type 0
PrintedReads = (v : Value) → IsValue v → Reads (printed v) v ⊎ ((b : Bad) × (v ≡ value.Bad b))
