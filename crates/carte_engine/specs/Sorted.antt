-- Names in name order, each once.
use Rattle.std.specs.Prelude.{ℕ, List, [], ◌∷◌}
use Rattle.std.specs.BTreeSet.{insert_key}
use Rattle.carte_name.specs.Names.{name_cmp}

abbrev pub sorted : List (List ℕ) → List (List ℕ)
sorted [] = []
sorted (k ∷ ks) = insert_key name_cmp (sorted ks) k
