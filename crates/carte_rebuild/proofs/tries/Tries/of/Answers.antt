use Rattle.std.proofs.Common.{ap}
use Rattle.carte_rebuild.specs.Left.{open_at, task_at, behind}
use Rattle.carte_rebuild.specs.Trying.{tries}
use Rattle.carte_rebuild.proofs.Starting.{recipe_start}
use Rattle.carte_rebuild.proofs.tries.Tries.of.Goals as goal

pub returns-clause-start : goal.returns-clause-start
returns-clause-start c = recipe_start _ _ _ c.in_ok-recipe.recipe _ (ap (λ s. tries (open_at s) (behind (task_at s))) c.in_ok-stage.ensures.ok) c.in_ok-recipe.ensures
