use Rattle.carte_sound.proofs.DeepRules.{deep_same, deep_unchanged}
use Rattle.carte_sound.proofs.laws.deep_rules_hold.Goals as goal

pub returns : goal.returns
returns c = record { held = λ H c b k t distinct in_c in_b of tasks links. deep_same H distinct c b in_c in_b k t of tasks links; unchanged = deep_unchanged }
