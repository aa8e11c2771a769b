use Rattle.std.proofs.Common.{◌≡◌, length, sym, ◌∙◌}
use Rattle.std.proofs.lemmas.Bool.{eqb-true, eqb-false}
use Rattle.carte_sheet.proofs.Cells.{fresh}
use Rattle.carte_sheet.proofs.Fields.{leaves_empty, leaves_field, no_place}
use Rattle.carte_sheet.proofs.cell.read_field.Goals as goal

pub returns-then-is_empty : goal.returns-then-is_empty
returns-then-is_empty c = λ m h before.
    leaves_empty c.args.row c.args.column c.args.field.now m c.args.draft.now (eqb-true (length c.args.field.now) 0 (sym c.is_empty.ensures ∙ c.if-is_empty.true)) h before

pub returns-in-Ok : goal.returns-in-Ok
returns-in-Ok c = λ m h before.
    let some : ¬ (length c.args.field.now ≡ 0) = eqb-false (length c.args.field.now) 0 (sym c.is_empty.ensures ∙ c.if-is_empty.false) in
    let cell = c.in-Ok.ensures.gives in
    leaves_field c.args.row c.args.column c.args.field.now c.in-Ok.name m c.read_filled.new.draft c.read_filled.result c.requires.row c.requires.column some cell before
    (c.read_filled.ensures m h (fresh m c.args.row c.args.column c.in-Ok.name before c.requires.row c.requires.column cell))

pub returns-in-Err : goal.returns-in-Err
returns-in-Err c = λ m h before cause.
    no_place c.args.row c.args.column c.args.field.now m c.in-Err.fault (eqb-false (length c.args.field.now) 0 (sym c.is_empty.ensures ∙ c.if-is_empty.false)) (c.in-Err.ensures.gives cause)
