-- Checks whose verdict is open, as their list.
use Rattle.std.specs.Prelude.{List, [], ◌∷◌, ◌++◌}
use Rattle.carte_task.specs.Checking.{Checking}
use Rattle.carte_rebuild.specs.declared.checks.Open.{Open}
use Rattle.carte_rebuild.specs.declared.checks.Open.TheVariants.{Empty, Last}

abbrev pub open_checks : Open → List Checking
open_checks Empty = []
open_checks (Last before last) = before.items ++ last ∷ []
