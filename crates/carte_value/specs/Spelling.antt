-- How values are spelled in bytes, and their digests.
use Rattle.std.specs.Prelude.{ℕ, ℤ, List, [], ◌∷◌, ◌++◌, ◌≡◌, ⊤, length, Option, Some, None, Result, Ok, Err, FitsSigned}
use Rattle.std.specs.Int.{w32, w64, to_be_bytes, cast_unsigned}
use Rattle.sha2.specs.Sha256.{sha256}
use Rattle.carte_value.specs.Texts.{IsText}
use Rattle.carte_name.specs.declared.NoMemory.{NoMemory}
use Rattle.carte_value.specs.declared.digest.Digest.{Digest}
use Rattle.carte_value.specs.declared.value.Bad.{Bad}
use Rattle.carte_value.specs.declared.value.Bad.TheVariants as bad
use Rattle.carte_value.specs.declared.value.Value.{Value}
use Rattle.carte_value.specs.declared.value.Value.TheVariants as value

-- a value as there is one: its number fits i64, its text is a text
abbrev pub IsValue : Value → Type 0
IsValue value.Empty = ⊤
IsValue (value.Number n) = FitsSigned w64 n
IsValue (value.Text t) = IsText t
IsValue (value.Bad b) = ⊤

-- two's complement in 8 bytes, the greatest first
abbrev pub spelled_number : ℤ → List ℕ
spelled_number n = to_be_bytes w64 (cast_unsigned w64 n)

-- the length in 4 bytes, the greatest first, and the text
abbrev pub spelled_text : List ℕ → List ℕ
spelled_text t = to_be_bytes w32 (length t) ++ t

abbrev pub bad_code : Bad → ℕ
bad_code bad.Div0 = 1
bad_code bad.Value = 2
bad_code bad.Ref = 3
bad_code bad.Num = 4
bad_code bad.Len = 5

abbrev pub spelling : Value → List ℕ
spelling value.Empty = 0 ∷ []
spelling (value.Number n) = 1 ∷ spelled_number n
spelling (value.Text t) = 2 ∷ spelled_text t
spelling (value.Bad b) = 3 ∷ bad_code b ∷ []

-- SHA-256 of the spelling
abbrev pub digest_of : Value → Digest
digest_of v = record { 0 = sha256 (spelling v) }

-- the value whose spelling the bytes begin with, and its length, or none where they begin with no spelling
abbrev pub IsDecoded : List ℕ → Result (Option (Value × ℕ)) NoMemory → Type 0
IsDecoded bytes (Ok (Some (v, n))) = IsValue v × (n ≡ length (spelling v)) × (rest : List ℕ) × (bytes ≡ spelling v ++ rest)
IsDecoded bytes (Ok None) = (v : Value) (rest : List ℕ) → IsValue v → ¬ (bytes ≡ spelling v ++ rest)
IsDecoded bytes (Err e) = ⊤

-- the same of what follows the first byte, by kind
abbrev pub IsNumberAhead : List ℕ → Option ℤ → Type 0
IsNumberAhead bytes (Some n) = FitsSigned w64 n × (rest : List ℕ) × (bytes ≡ spelled_number n ++ rest)
IsNumberAhead bytes None = (n : ℤ) (rest : List ℕ) → FitsSigned w64 n → ¬ (bytes ≡ spelled_number n ++ rest)

abbrev pub IsTextAhead : List ℕ → Option (List ℕ) → Type 0
IsTextAhead bytes (Some t) = IsText t × (rest : List ℕ) × (bytes ≡ spelled_text t ++ rest)
IsTextAhead bytes None = (t rest : List ℕ) → IsText t → ¬ (bytes ≡ spelled_text t ++ rest)

abbrev pub IsBadAhead : List ℕ → Option Bad → Type 0
IsBadAhead bytes (Some b) = (rest : List ℕ) × (bytes ≡ bad_code b ∷ rest)
IsBadAhead bytes None = (b : Bad) (rest : List ℕ) → ¬ (bytes ≡ bad_code b ∷ rest)

-- bytes begin with one spelling at most, and that is of one value
abbrev pub OneSpelling : Type 0
OneSpelling = (v w : Value) (r s : List ℕ) → IsValue v → IsValue w → spelling v ++ r ≡ spelling w ++ s → (v ≡ w) × (r ≡ s)
