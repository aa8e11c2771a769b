use Rattle.std.proofs.Common.{refl}
use Rattle.carte_book.proofs.InputNames.{unlisted, unnumbered}
use Rattle.carte_book.proofs.book.Book.may_be_input.Goals as goal

pub returns-in-Rules : goal.returns-in-Rules
returns-in-Rules c none = unlisted c.args.self.now c.args.name.now (cc) (unnumbered c.args.self.now.inputs c.args.name.now (cc))
