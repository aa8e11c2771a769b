-- A check on its way.
use Rattle.std.specs.Prelude.{ℕ}
use Rattle.carte_effect.specs.Outcomes.{Outcome}

-- the earlier end, and the place of the link that comes next
pub record Checking : Type 0 where
  pub earlier : Outcome
  pub at : ℕ
