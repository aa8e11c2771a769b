use Rattle.std.proofs.Common.{option_copied, ap, sym, ◌∙◌}
use Rattle.carte_mark.proofs.Putting.{only_among, only_there}
use Rattle.carte_mark.proofs.set.is_first.Goals as goal

pub returns-in-Some : goal.returns-in-Some
returns-in-Some c = only_among c.args.names.now c.in-Some.first.now c.args.name.now c.eq.result c.requires (sym c.name.ensures ∙ ap option_copied c.in-Some.is) c.eq.ensures

pub returns-in-None : goal.returns-in-None
returns-in-None c = absurd (only_there c.args.names.now c.requires (sym c.name.ensures ∙ ap option_copied c.in-None.is))
