use Rattle.std.proofs.Common.{ap, ◌∙◌}
use Rattle.carte_mark.specs.Puts.{put_all}
use Rattle.carte_plan.proofs.Leading.{just_put}
use Rattle.carte_plan.proofs.planning.set_of.Goals as goal

pub returns : goal.returns
returns c = just_put c.put_each.new.reached c.args.names.now ((c.in_ok-put_each.ensures {u = tt}).put ∙ ap (λ ks. put_all ks c.args.names.now) c.new-set.ensures)
