use Rattle.std.proofs.Common.{ap, ◌∙◌, drop}
use Rattle.std.proofs.lemmas.List.{drop_min}
use Rattle.carte_plan.proofs.ahead.behind_part.Goals as goal

pub returns : goal.returns
returns c = c.split_at.ensures.back ∙ (ap (λ n. drop n c.args.tasks.now) c.min.ensures ∙ drop_min 256 c.args.tasks.now)
