use Rattle.std.proofs.Common.{arith}
use Rattle.carte_rules.proofs.Puts.{ascending}
use Rattle.carte_rules.proofs.plain.are_ascending.Goals as goal

pub returns : goal.returns
returns c = λ yes. ascending c.args.entries.now c.loop-at.at (omega arith) c.loop-at.invariant.1
