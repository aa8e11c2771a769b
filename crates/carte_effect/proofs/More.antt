-- Logs with further answers.
use Rattle.std.proofs.Common.{◌≡◌, [], ◌++◌, Option, Some, None, refl, ap, append_assoc, append-nil}
use Rattle.carte_value.specs.Once.{Answers}
use Rattle.carte_effect.specs.Effects.{more}

pub more_none : (log : Option Answers) → more log [] ≡ log
more_none None = refl
more_none (Some l) = ap Some (append-nil l)

pub more_more : (log : Option Answers) (a b : Answers) → more (more log a) b ≡ more log (a ++ b)
more_more None a b = refl
more_more (Some l) a b = ap Some (append_assoc l a b)
