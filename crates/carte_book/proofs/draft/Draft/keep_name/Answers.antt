use Rattle.std.proofs.Common.{◌∙◌}
use Rattle.std.specs.FinMap.{get}
use Rattle.carte_book.proofs.Drafting.{nothing}
use Rattle.carte_book.proofs.draft.Draft.keep_name.Goals as goal

pub returns-then-has-clause-takes : goal.returns-then-has-clause-takes
returns-then-has-clause-takes c = λ m x h. c.has.ensures m h ∙ c.if-has.true

pub returns-clause-takes : goal.returns-clause-takes
returns-clause-takes c = λ m x h. c.keep_new.ensures.takes m x h (nothing (get m c.args.name) (c.has.ensures m h ∙ c.if-has.false))
