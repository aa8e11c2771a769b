use Rattle.carte_engine.proofs.Emptying.{clears, leaves_bare}
use Rattle.carte_engine.proofs.clear.clearing.Goals as goal

pub returns-then-not-keeps_nothing : goal.returns-then-not-keeps_nothing
returns-then-not-keeps_nothing c = clears c.args.state.now c.keeps_nothing.result c.new-batch.result c.new-batch.ensures c.keeps_nothing.ensures c.if-not-keeps_nothing.true

pub returns-else-not-keeps_nothing : goal.returns-else-not-keeps_nothing
returns-else-not-keeps_nothing c = leaves_bare c.args.state.now c.keeps_nothing.result c.new-batch.result c.new-batch.ensures c.keeps_nothing.ensures c.if-not-keeps_nothing.false
