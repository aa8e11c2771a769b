use Rattle.carte_codec.specs.Laws.{pair_one}
use Rattle.carte_codec.proofs.Wholes.{as_fails}
use Rattle.carte_record_one.specs.Bodies.{FitsBatch}
use Rattle.carte_record_one.specs.BodyLaws.{kind_one, front_one, back_one, batch_parts}
use Rattle.carte_record_one.proofs.batch.BatchOne.read.Goals as goal

pub returns-in_ok-batch-in-Ok : goal.returns-in_ok-batch-in-Ok
returns-in_ok-batch-in-Ok c = rw (c.in_ok-batch-in-Ok.ensures {u = tt}) (c.in-Ok.ensures.0.1, c.in-Ok.ensures.1)

pub returns-in-Err : goal.returns-in-Err
returns-in-Err c = as_fails batch_parts (pair_one kind_one (pair_one front_one back_one)) FitsBatch (λ b fit. (tt, fit)) c.args.bytes.now c.in-Err.unread c.in-Err.ensures
