-- The least and the greatest number of a list that goes on from the best so far.
use Rattle.std.specs.Prelude.{ℤ, List, ◌∷◌, Option, Some, None}
use Rattle.carte_tree.specs.Numbers.{least, greatest}

abbrev pub least_on : Option ℤ → List ℤ → ℤ
least_on None ns = least ns
least_on (Some m) ns = least (m ∷ ns)

abbrev pub greatest_on : Option ℤ → List ℤ → ℤ
greatest_on None ns = greatest ns
greatest_on (Some m) ns = greatest (m ∷ ns)
