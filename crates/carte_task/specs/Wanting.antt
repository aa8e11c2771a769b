-- The names that an instruction wants looked up.
use Rattle.std.specs.Prelude.{ℕ, List, [], ◌∷◌}
use Rattle.carte_task.specs.declared.code.Wanted.{Wanted}
use Rattle.carte_task.specs.declared.code.Wanted.TheVariants.{Nothing, One, Many}

abbrev pub names_wanted : Wanted → List (List ℕ)
names_wanted Nothing = []
names_wanted (One k) = k ∷ []
names_wanted (Many ks) = ks
