use Rattle.std.proofs.Common.{◌≡◌, take}
use Rattle.carte_task.proofs.code.copy_of.Given as goal

abbrev pub invariant-loop-instr : goal.invariant-loop-instr
invariant-loop-instr l = l.copy.items ≡ take l.instr-index l.code
