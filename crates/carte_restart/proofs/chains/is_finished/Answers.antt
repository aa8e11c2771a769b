use Rattle.std.proofs.Common.{sym, ◌∙◌}
use Rattle.carte_restart.proofs.Chaining.{found_so}
use Rattle.carte_restart.proofs.chains.is_finished.Goals as goal

pub returns-then-is_at : goal.returns-then-is_at
returns-then-is_at c = sym (c.is_at.ensures c.if-is_at.true)

pub returns : goal.returns
returns c = c.is_some.ensures ∙ found_so c.args.finished.now c.args.name.now c.find.result c.find.ensures
