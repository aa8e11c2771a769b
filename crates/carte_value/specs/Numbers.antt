-- Numbers of names: the places in a list in which each stands once.
use Rattle.std.specs.Prelude.{ℕ, List, Option, position}
use Rattle.carte_name.specs.Names.{name_eq}

-- the number of a name, where it has one
abbrev pub number_of : List (List ℕ) → List ℕ → Option ℕ
number_of ks k = position (name_eq k) ks
