-- The lines of a script: each ends behind its line feed, the last one also where the script ends.
use Rattle.std.specs.Prelude.{ℕ, ◌≡◌, ◌≢◌, ◌⊎◌, ◌<◌, List, [], ◌∷◌, ◌++◌, length, if◌then◌else◌, ◌==◌}

-- a line has no line feed in it
abbrev pub IsLine : List ℕ → Type 0
IsLine [] = Unit {0}
IsLine (x ∷ line) = (x ≢ 10) × IsLine line

abbrev pub AreLines : List (List ℕ) → Type 0
AreLines [] = Unit {0}
AreLines (line ∷ lines) = IsLine line × AreLines lines

-- whole lines as bytes, each with its line feed
abbrev pub spelled : List (List ℕ) → List ℕ
spelled [] = []
spelled (line ∷ lines) = line ++ 10 ∷ spelled lines

-- bytes are these whole lines, and the open rest behind the last line feed
pub record IsCut (bytes : List ℕ) (lines : List (List ℕ)) (rest : List ℕ) : Type 0 where
  pub whole : bytes ≡ spelled lines ++ rest
  pub lined : AreLines lines
  pub open_rest : IsLine rest

-- all lines of a script: the last one may lack its line feed, and then isn't empty
abbrev pub AreAll : List ℕ → List (List ℕ) → Type 0
AreAll bytes lines = IsCut bytes lines []
    ⊎ ((front : List (List ℕ)) × (last : List ℕ) × (lines ≡ front ++ last ∷ []) × (last ≢ []) × IsCut bytes front last)

-- the next line behind these, of what was read: its line feed was read, and behind it fewer than `most` bytes; or it stands last
abbrev pub IsNext : List ℕ → List (List ℕ) → List ℕ → ℕ → Type 0 → Type 0
IsNext read lines line most AtEnd = AreLines lines × IsLine line
    × (((rest : List ℕ) × (read ≡ spelled lines ++ (line ++ 10 ∷ rest)) × (length rest < most))
    ⊎ ((read ≡ spelled lines ++ line) × (line ≢ []) × AtEnd))

-- the lines of a script as a function of its bytes

-- a byte in front of the first line
abbrev pub put_first : ℕ → List (List ℕ) → List (List ℕ)
put_first x [] = (x ∷ []) ∷ []
put_first x (line ∷ lines) = (x ∷ line) ∷ lines

abbrev pub lines_of : List ℕ → List (List ℕ)
lines_of [] = []
lines_of (x ∷ bytes) = if x == 10 then [] ∷ lines_of bytes else put_first x (lines_of bytes)
