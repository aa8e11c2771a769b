use Rattle.carte_rebuild.specs.Goes.{GoesOver}
use Rattle.carte_rebuild.proofs.Often.{driven_goes}
use Rattle.carte_rebuild.proofs.laws.driven_right.Goals as goal

pub returns : goal.returns
returns g c r K b H k t u p q step base start driven =
    driven_goes g.R.Job.Job.gives b (λ w j. g.R.Rebuilder.begun r K b w k j) (λ w s j. GoesOver (g.R.Rebuilder.how r) K b k w (λ x i. g.R.Rebuilder.begun r K b x k i) s j)
    (λ v part m n a s h more is_part gave. g.met.R.Rebuilder.goes_on r K b H v k m part a s n base h more is_part gave)
    (λ w n j goes. goes.0)
    (λ w j goes. goes)
    t p u step q driven start
