use Rattle.std.proofs.Common.{◌≡◌, ◌<◌, ◌≤◌, ℕ, List, Some, true, Result}
use Rattle.std.specs.FinMap.{empty}
use Rattle.csv.specs.Reading.{Ready, default_config, source_of, is_flexible}
use Rattle.csv.specs.declared.reader.Trim.TheVariants as trim
use Rattle.carte_book.specs.declared.fault.BookFault.{BookFault}
use Rattle.carte_sheet.specs.Drafts.{Holds}
use Rattle.carte_sheet.specs.Reading.{Content, RowsInto, records_of}
use Rattle.carte_sheet.specs.Places.{IsAbove}
use Rattle.carte_sheet.proofs.Records.{IsBetween, rest_from}
use Rattle.carte_sheet.proofs.rows.read_rows.Given as goal

abbrev pub invariant-loop-found : goal.invariant-loop-found
invariant-loop-found l = (l.found-iterator.rdr.trim ≡ trim.None) × Ready l.found-iterator.rdr × (0 < l.found-iterator.left) × (l.found-iterator.rdr.config ≡ default_config)
    × (is_flexible l.found-iterator.rdr ≡ true) × (1 ≤ l.row) × IsBetween l.found-iterator.rdr.state
    × (y : List ℕ) × (source_of (λ s. Some s.now) l.found-iterator.rdr ≡ Some y)
    × (m : Content) × Holds l.draft m × IsAbove m l.row
    × ((o : Result Content BookFault) → RowsInto l.row (rest_from l.found-iterator.rdr.state y) m o → RowsInto 1 (records_of l.fn.text) empty o)
