use Rattle.std.proofs.Common.{refl}
use Rattle.carte_book.proofs.Drafting.{holds_noted}
use Rattle.carte_book.proofs.draft.Draft.note_name.Goals as goal

pub returns-clause-takes : goal.returns-clause-takes
returns-clause-takes c = λ m x h new. (new, holds_noted c.args.self.now _ m c.args.name x h new c.requires.full c.requires.sheet refl refl)
