-- What stays of a batch whatever is noted in it, and where memory lacks meanwhile.
use Rattle.std.specs.Prelude.{◌≡◌}
use Rattle.carte_record.specs.declared.batch.Batch.{Batch}
use Rattle.carte_record.specs.Growth.{GrowsBatch}

-- its lists of items begin with what they had, and all else is as before
pub record Grown (old new : Batch) : Type 0 where
  pub front : GrowsBatch old new
  pub start : new.start ≡ old.start
  pub gone : new.gone ≡ old.gone
  pub stale : new.stale ≡ old.stale
  pub chain : new.chain ≡ old.chain
