-- How a name is kept: its at most 16 bytes with zeros behind them, or the whole of a longer one. The number beside either
-- is no part of the name.
use Rattle.std.specs.Prelude.{ℕ, zero, suc, List, [], ◌∷◌, ◌≡◌, ◌≤◌, ◌<◌, length, take, nat_le, IsTrue, if◌then◌else◌}
use Rattle.std.specs.Arc.{arc_str_bytes}
use Rattle.carte_name.specs.declared.held.Held.{Held}
use Rattle.carte_name.specs.declared.held.Held.TheVariants.{Short, Long}
use Rattle.carte_name.specs.Names.{is_name, name_eq}
use Rattle.std.proofs.Common.{ap}
use Rattle.std.specs.Cmp.Lexicographic.{bytes_decides}

-- the first n bytes, with zeros behind them where there are fewer
abbrev pub padded : ℕ → List ℕ → List ℕ
padded zero k = []
padded (suc n) [] = 0 ∷ padded n []
padded (suc n) (x ∷ k) = x ∷ padded n k

unfoldable pub front_of : List ℕ → List ℕ
front_of k = padded 16 k

-- the bytes of the name that is kept so
abbrev pub shown : Held → List ℕ
shown (Short n hint front) = take n front
shown (Long hint text) = arc_str_bytes text

-- a name stands in itself as long as there is room for it, with zeros behind it
abbrev pub Fits : Held → Type 0
Fits (Short n hint front) = (front ≡ front_of (take n front)) × (n ≤ 16)
Fits (Long hint text) = 16 < length (arc_str_bytes text)

pub record IsHeld (held : Held) : Type 0 where
  pub is : IsTrue (is_name (shown held))
  pub fits : Fits held

-- what is hashed: the front, or the whole of a longer name
unfoldable pub fed : List ℕ → List (List ℕ)
fed k = (if nat_le (length k) 16 then front_of k else k) ∷ []

pub fed_alike : (k j : List ℕ) → IsTrue (name_eq k j) → fed k ≡ fed j
fed_alike k j same = ap fed ((bytes_decides k j).0 same)
