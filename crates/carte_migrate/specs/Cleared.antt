-- The batch that begins with nothing kept.
use Rattle.std.specs.Prelude.{Option, Some, None}
use Rattle.carte_record.specs.declared.batch.Batch.{Batch}
use Rattle.carte_record.specs.declared.start.Start.TheVariants.{Cleared}
use Rattle.carte_sound.specs.LeadsTo.{empty_batch}

-- what a batch brings where there is one, and else nothing
abbrev pub cleared : Option Batch → Batch
cleared None = record empty_batch { start = Cleared }
cleared (Some B) = record B { start = Cleared }
