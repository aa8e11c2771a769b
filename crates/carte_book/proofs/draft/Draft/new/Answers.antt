use Rattle.std.proofs.Common.{refl}
use Rattle.carte_book.proofs.Drafting.{holds_none}
use Rattle.carte_book.proofs.draft.Draft.new.Goals as goal

pub returns-in-Ok-clause-holds : goal.returns-in-Ok-clause-holds
returns-in-Ok-clause-holds c = holds_none _ c.in-Ok.ensures.items c.new.ensures.len refl
