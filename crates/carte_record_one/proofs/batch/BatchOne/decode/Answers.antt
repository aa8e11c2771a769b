use Rattle.carte_record_one.proofs.Bodies.{decoded}
use Rattle.carte_record_one.proofs.batch.BatchOne.decode.Goals as goal

pub returns-in-Ok : goal.returns-in-Ok
returns-in-Ok c = decoded c.in-Ok.batch c.in-Ok.rest.now c.args.bytes.now c.whole.result c.in-Ok.ensures.0 c.in-Ok.ensures.1 c.whole.ensures
