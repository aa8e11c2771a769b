-- Digests as keys of a table.
use Rattle.std.specs.Prelude.{ℕ, List, [], ◌∷◌, ◌≡◌, IsTrue}
use Rattle.std.proofs.Common.{ap}
use Rattle.std.specs.Cmp.Lexicographic.{bytes_decides}
use Rattle.carte_name.specs.Names.{name_eq}

-- what is hashed: all bytes at once
abbrev pub fed : List ℕ → List (List ℕ)
fed k = k ∷ []

pub fed_alike : (k j : List ℕ) → IsTrue (name_eq k j) → fed k ≡ fed j
fed_alike k j same = ap fed ((bytes_decides k j).0 same)
