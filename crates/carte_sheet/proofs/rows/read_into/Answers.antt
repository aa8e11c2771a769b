use Rattle.std.proofs.Common.{Err, refl}
use Rattle.carte_sheet.specs.Reading.{records_of}
use Rattle.carte_sheet.proofs.RowLemmas.{all_rows}
use Rattle.carte_sheet.proofs.rows.read_into.Goals as goal

pub returns-in-Ok : goal.returns-in-Ok
returns-in-Ok c =
    let left = rw c.in-Ok.is at c.read_rows.ensures in
    all_rows (records_of c.args.text.now) left.0 c.finish.result left.1 (c.finish.ensures left.0 left.2)

pub returns : goal.returns
returns c = λ cause. (Err c.in-Err.fault, (rw c.in-Err.is at c.read_rows.ensures) cause, refl)

pub invariant_of-draft : goal.invariant_of-draft
invariant_of-draft c =
    let grown = c.read_rows.new.draft.keys.book in
    record { is_nothing = grown.is_nothing; fits = grown.fits; listed = grown.listed; knows = grown.knows }
