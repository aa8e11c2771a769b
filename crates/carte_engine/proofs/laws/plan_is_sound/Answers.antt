use Rattle.carte_engine.proofs.Keeping.{plan_sound}
use Rattle.carte_engine.proofs.laws.plan_is_sound.Goals as goal

pub returns : goal.returns
returns c = plan_sound
