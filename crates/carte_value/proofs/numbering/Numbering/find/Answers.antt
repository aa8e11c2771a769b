use Rattle.std.proofs.Common.{ap, sym, ◌∙◌}
use Rattle.carte_value.specs.Numbers.{number_of}
use Rattle.carte_value.proofs.Numbered.{numbered_there}
use Rattle.carte_value.proofs.numbering.Numbering.find.Goals as goal

pub returns-in-Some-clause-there : goal.returns-in-Some-clause-there
returns-in-Some-clause-there c = numbered_there c.args.self.now c.args.name.now c.in-Some.at (ap (λ ks. number_of ks c.args.name.now) (sym c.self.view_is) ∙ sym c.get_index_of.ensures.index ∙ c.in-Some.is)
