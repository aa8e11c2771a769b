use Rattle.std.proofs.Common.{[], ◌∷◌, ◌++◌, ap, sym, ◌∙◌}
use Rattle.carte_restart.proofs.Chaining.{other_put, other_left}
use Rattle.carte_restart.proofs.chains.add_other.Goals as goal

pub returns : goal.returns
returns c = (c.in_ok-push.ensures {u = tt}) ∙ ap (λ k. c.args.chain.now ++ k ∷ []) (c.in_ok-copy.ensures {u = tt}) ∙ other_put c.args.finished.now c.args.chain.now c.args.name.now (sym c.is_finished.ensures ∙ c.if-is_finished.false)

pub returns-then-is_finished : goal.returns-then-is_finished
returns-then-is_finished c = other_left c.args.finished.now c.args.chain.now c.args.name.now (sym c.is_finished.ensures ∙ c.if-is_finished.true)
