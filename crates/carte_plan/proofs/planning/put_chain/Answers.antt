use Rattle.carte_plan.proofs.Chained.{chain_other, chain_same}
use Rattle.carte_plan.proofs.planning.put_chain.Goals as goal

pub returns-then-eq : goal.returns-then-eq
returns-then-eq c = chain_same c.args.old.now c.args.chain.now c.as_slice.result.now c.as_slice-2.result.now c.args.batch.now c.eq.result c.as_slice.ensures c.as_slice-2.ensures c.eq.ensures c.if-eq.true

pub returns : goal.returns
returns c = chain_other c.args.old.now c.args.chain.now c.as_slice.result.now c.as_slice-2.result.now c.args.batch.now c.in_ok-copy.field-0 c.eq.result c.as_slice.ensures c.as_slice-2.ensures c.eq.ensures c.if-eq.false (c.in_ok-copy.ensures {u = tt})
