use Rattle.std.proofs.Common.{ap, sym, ◌∙◌}
use Rattle.carte_name.specs.Names.{name_eq}
use Rattle.carte_restart.proofs.Chaining.{finished_at}
use Rattle.carte_restart.proofs.chains.is_at.Goals as goal

pub returns-in-Some : goal.returns-in-Some
returns-in-Some c is = finished_at c.args.finished.now c.args.at c.in-Some.key.now c.args.name.now (sym c.in-Some.ensures) (ap (λ j. name_eq j c.args.name.now) (sym c.key.ensures) ∙ (sym c.eq.ensures ∙ is))
