use Rattle.carte_value.proofs.Rectangles.{size_is_number}
use Rattle.carte_value.proofs.area.Area.size.Goals as goal

pub returns-clause-number : goal.returns-clause-number
returns-clause-number c = size_is_number c.args.self.now
