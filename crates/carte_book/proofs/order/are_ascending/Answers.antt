use Rattle.std.proofs.Common.{arith}
use Rattle.carte_book.proofs.Listed.{ascending}
use Rattle.carte_book.proofs.order.are_ascending.Goals as goal

pub returns : goal.returns
returns c = λ yes. ascending c.args.rules.now c.loop-at.at (omega arith) c.loop-at.invariant.1
