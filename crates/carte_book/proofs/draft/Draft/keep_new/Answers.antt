use Rattle.std.proofs.Common.{refl}
use Rattle.carte_book.proofs.Drafting.{holds_name}
use Rattle.carte_book.proofs.draft.Draft.keep_new.Goals.{in-Ok, in-Err}
use Rattle.carte_book.proofs.draft.Draft.keep_new.Goals as goal

pub returns-clause-takes : goal.returns-clause-takes
returns-clause-takes c = λ m x h new. elim c.match-insert.branch [
  | in-Ok w ↦ rw w.result-is (new, holds_name c.args.self.now _ m c.args.name x h new c.requires.full c.requires.rules refl refl w.in-Ok.ensures.updates.0)
  | in-Err w ↦ rw w.result-is new
]
