use Rattle.std.proofs.Common.{◌+◌, drop, Result}
use Rattle.csv.specs.Records.{fields_of}
use Rattle.carte_book.specs.declared.fault.BookFault.{BookFault}
use Rattle.carte_sheet.specs.Drafts.{Holds}
use Rattle.carte_sheet.specs.Reading.{Content, FieldsInto, RowInto}
use Rattle.carte_sheet.specs.Places.{IsAbove, IsBefore}
use Rattle.carte_sheet.proofs.rows.read_row.Given as goal

abbrev pub invariant-loop-at : goal.invariant-loop-at
invariant-loop-at l = (m : Content) → Holds l.fn.draft m → IsAbove m l.row → (n : Content) × Holds l.draft n × IsBefore n l.row (l.at + 1)
    × ((o : Result Content BookFault) → FieldsInto l.row (l.at + 1) (drop l.at (fields_of l.fields)) n o → RowInto l.row (fields_of l.fields) m o)
