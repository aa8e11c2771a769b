-- The batch that empties a state.
use Rattle.std.specs.Prelude.{◌&&◌, Bool, is_some, not, if◌then◌else◌}
use Rattle.carte_record.specs.declared.batch.Batch.{Batch}
use Rattle.carte_record.specs.declared.start.Start.TheVariants.{Cleared}
use Rattle.carte_record.specs.Empty.{is_bare}
use Rattle.carte_sound.specs.LeadsTo.{empty_batch}
use Rattle.carte_state.specs.States.{Stand}

-- nothing is kept, of version 1 neither
abbrev pub keeps_nothing : Stand → Bool
keeps_nothing s = not (is_some s.one) && is_bare s.kept

-- nothing where nothing is kept
abbrev pub clearing : Stand → Batch
clearing s = if keeps_nothing s then empty_batch else record empty_batch { start = Cleared }
