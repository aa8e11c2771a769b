use Rattle.std.proofs.Common.{◌∙◌, sym}
use Rattle.carte_compact.proofs.Wanted.{wanted_less}
use Rattle.carte_compact.proofs.due.may_be_wanted.Goals as goal

pub returns : goal.returns
returns c unwanted live more = wanted_less c.args.bank.now c.args.least live c.args.is_over c.args.is_first more (sym c.is_wanted.ensures ∙ unwanted)
