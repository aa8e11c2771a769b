use Rattle.carte_task.proofs.Once.{code_more}
use Rattle.carte_task.proofs.mentioned.names_in.Goals as goal

pub loop-instr-preserved : goal.loop-instr-preserved
loop-instr-preserved c =
    code_more c.args.code.now c.loop-instr.instr-index c.instr-item.result c.loop-instr.seen c.see.new.seen c.loop-instr-test.true c.instr-item.is c.loop-instr.invariant (c.in_ok-see.ensures {u = tt})
