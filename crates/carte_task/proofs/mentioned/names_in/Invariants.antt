use Rattle.std.proofs.Common.{◌≡◌, take}
use Rattle.carte_value.specs.Asks.{firsts}
use Rattle.carte_task.specs.Mentions.{mentions_in}
use Rattle.carte_task.proofs.mentioned.names_in.Given as goal

abbrev pub invariant-loop-instr : goal.invariant-loop-instr
invariant-loop-instr l = l.seen ≡ firsts (mentions_in (take l.instr-index l.code))
