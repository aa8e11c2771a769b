use Rattle.carte_sheet.proofs.Fields.{leaves_filled, not_filled}
use Rattle.carte_sheet.proofs.cell.read_filled.Goals as goal

pub returns-in-Ok : goal.returns-in-Ok
returns-in-Ok c = λ m h new.
    leaves_filled c.args.name c.args.field.now m c.read_text.new.draft c.read_text.result c.in-Ok.ensures.cases.1 (rw c.in-Ok.ensures.cases.0 at (c.read_text.ensures m h new))

pub returns-in-Err : goal.returns-in-Err
returns-in-Err c = λ m h new cause. not_filled c.args.name c.args.field.now m c.in-Err.ensures.cases.0
