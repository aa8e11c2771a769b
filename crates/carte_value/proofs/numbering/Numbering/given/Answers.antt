use Rattle.carte_value.proofs.Numbered.{numbered_stays}
use Rattle.carte_value.proofs.numbering.Numbering.given.Goals as goal

pub returns-in-Some-clause-known : goal.returns-in-Some-clause-known
returns-in-Some-clause-known c = numbered_stays c.args.self.now c.args.name.now c.in-Some.number c.in-Some.ensures.there
