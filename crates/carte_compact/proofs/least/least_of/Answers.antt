use Rattle.std.proofs.Common.{arith}
use Rattle.carte_compact.proofs.Sizes.{if_known}
use Rattle.carte_compact.proofs.least.least_of.Goals as goal

pub returns : goal.returns
returns c =
    if_known c.sum_of.result _ _ (λ n is names keys seen listed. let front = c.in_ok-front.ensures {u = tt} names keys seen listed in let back = c.in_ok-back.ensures {u = tt} in omega (arith, is, front, back)) c.sum_of.ensures
