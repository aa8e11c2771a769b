-- Each name once, as names come one after the other.
use Rattle.std.specs.Prelude.{ℕ, List, [], ◌∷◌, ◌++◌, if◌then◌else◌}
use Rattle.std.specs.List.{list_any}
use Rattle.carte_name.specs.Names.{name_eq}

-- one name more, unless it was seen
abbrev pub seen_also : List (List ℕ) → List ℕ → List (List ℕ)
seen_also ks k = if list_any (name_eq k) ks then ks else ks ++ k ∷ []

abbrev pub seen_all : List (List ℕ) → List (List ℕ) → List (List ℕ)
seen_all ks [] = ks
seen_all ks (j ∷ js) = seen_all (seen_also ks j) js
