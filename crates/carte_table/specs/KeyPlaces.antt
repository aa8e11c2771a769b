-- What a table of places has of a key.
use Rattle.std.specs.Prelude.{ℕ, List, [], ◌∷◌, Option, Some, None}
use Rattle.carte_table.specs.declared.places.Places.{Places}
use Rattle.carte_table.specs.declared.places.Places.TheVariants.{Gone, One, Two, Many}

abbrev pub places_of : Places → List ℕ
places_of Gone = []
places_of (One p) = p ∷ []
places_of (Two ps) = ps
places_of (Many ps) = ps.value.items

abbrev pub places_in : Option Places → List ℕ
places_in None = []
places_in (Some ps) = places_of ps
