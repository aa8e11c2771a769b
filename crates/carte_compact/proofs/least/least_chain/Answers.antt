use Rattle.std.proofs.Common.{arith}
use Rattle.carte_compact.proofs.Covered.{chain_long}
use Rattle.carte_compact.proofs.least.least_chain.Goals as goal

pub returns : goal.returns
returns c = omega (arith, chain_long c.args.chain.now, c.len.ensures.number)
