use Rattle.carte_record.proofs.Threes.{none_three, read_three}
use Rattle.carte_record.proofs.batch.Batch.decode_three.Goals as goal

pub returns-in-Ok : goal.returns-in-Ok
returns-in-Ok c = read_three c.in-Ok.parts c.in-Ok.rest.now c.args.bytes.now c.whole.result c.in-Ok.ensures.0.1 c.in-Ok.ensures.1 c.whole.ensures

pub returns-in-Err-NotThere : goal.returns-in-Err-NotThere
returns-in-Err-NotThere c = none_three c.args.bytes.now (rw c.in-Err-NotThere.field-0-is at c.in-Err-NotThere.ensures)
