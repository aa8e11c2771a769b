use Rattle.std.proofs.Common.{◌+◌, ◌<◌, ◌≤◌, [], drop, length, Ok, arith}
use Rattle.std.proofs.lemmas.List.{drop_all}
use Rattle.csv.specs.Records.{fields_of}
use Rattle.std.specs.List.{slice_index_or}
use Rattle.carte_sheet.proofs.Cells.{before_row}
use Rattle.carte_sheet.proofs.RowLemmas.{at_drop, fields_turn, fields_end}
use Rattle.carte_sheet.proofs.rows.read_row.Goals as goal

pub loop-at-preserved : goal.loop-at-preserved
loop-at-preserved c = λ m h before.
    let fs = fields_of c.args.fields.now in
    let at = c.loop-at.at in
    let within : at < length fs = omega (arith, c.loop-at-test.true, c.len-at-end.ensures) in
    let i = c.loop-at.invariant m h before in
    let step = c.in_default.ensures i.0 i.1 i.2 in
    (step.0, step.2, step.3, λ o r. i.3 o (fields_turn c.args.row (at + 1) (drop at fs) (drop (at + 1) fs) (slice_index_or fs at []) i.0 step.0 o (at_drop fs at within) step.1 r))

pub returns : goal.returns
returns c = λ m h before.
    let fs = fields_of c.args.fields.now in
    let at = c.loop-at.at in
    let beyond : length fs ≤ at = omega (arith, c.loop-at-test.false, c.len-at-end.ensures) in
    let i = c.loop-at.invariant m h before in
    (i.0, i.3 (Ok i.0) (fields_end c.args.row (at + 1) (drop at fs) i.0 (drop_all at fs beyond)), i.1, before_row i.0 c.args.row (at + 1) i.2)
