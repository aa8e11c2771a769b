-- Texts that are values.
use Rattle.std.specs.Prelude.{ℕ, Bool, true, false, List, ◌≡◌, ◌<◌, ◌≤◌, ◌++◌, length, Option, Some, None, Result, Ok, Err, IsUtf8}
use Rattle.carte_value.specs.declared.text_fault.TextFault.{TextFault}
use Rattle.carte_value.specs.declared.text_fault.TextFault.TheVariants.{TooLong, NoMemory}

-- UTF-8, and at most 65,536 bytes long
abbrev pub IsText : List ℕ → Type 0
IsText t = IsUtf8 t × (length t ≤ 65536)

-- what bytes of a text become: the text, or their number where they are too many
abbrev pub IsTextMade : List ℕ → Result (List ℕ) TextFault → Type 0
IsTextMade bytes (Ok t) = (t ≡ bytes) × (length bytes ≤ 65536)
IsTextMade bytes (Err (TooLong n)) = (n ≡ length bytes) × (65536 < n)
IsTextMade bytes (Err NoMemory) = length bytes ≤ 65536

-- the same without memory
abbrev pub IsTextKept : List ℕ → Option (List ℕ) → Type 0
IsTextKept bytes (Some t) = (t ≡ bytes) × (length bytes ≤ 65536)
IsTextKept bytes None = 65536 < length bytes

-- what a text becomes when more is put behind it: both, or as it was, where both are too long for a text or memory is lacking
abbrev pub IsAppended : {E : Type 0} → List ℕ → List ℕ → List ℕ → Result Bool E → Type 0
IsAppended old more new (Ok true) = (new ≡ old ++ more) × (length (old ++ more) ≤ 65536)
IsAppended old more new (Ok false) = (new ≡ old) × (65536 < length (old ++ more))
IsAppended old more new (Err e) = new ≡ old
