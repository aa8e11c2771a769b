-- Lists of names to which names are put, each once.
use Rattle.std.specs.Prelude.{ℕ, List, [], ◌∷◌}
use Rattle.carte_value.specs.Firsts.{seen_also}

abbrev pub put_all : List (List ℕ) → List (List ℕ) → List (List ℕ)
put_all rs [] = rs
put_all rs (k ∷ ks) = put_all (seen_also rs k) ks
