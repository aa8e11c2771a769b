-- Entries of version 1 that are marked where they stand.
use Rattle.std.specs.Prelude.{Bool}
use Rattle.carte_record_one.specs.declared.entry.EntryOne.{EntryOne}

abbrev pub marked_as : Bool → EntryOne → EntryOne
marked_as b e = record e { stale = b }
