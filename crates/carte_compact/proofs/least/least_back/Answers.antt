use Rattle.std.proofs.Common.{arith}
use Rattle.carte_compact.proofs.Sizes.{if_known}
use Rattle.carte_compact.proofs.least.least_back.Goals as goal

pub returns : goal.returns
returns c = if_known c.sum_of.result _ _ (λ n is. omega (arith, is, c.least_traces-verifying.ensures, c.least_traces-constructive.ensures, c.least_traces-deep.ensures, c.least_chain-chain.ensures)) c.sum_of.ensures
