use Rattle.std.proofs.Common.{sym, subst}
use Rattle.carte_book.specs.Inputs.{AreListed}
use Rattle.carte_book.proofs.book.Book.learn_task_at.Goals as goal

pub invariant_of-self-clause-fits : goal.invariant_of-self-clause-fits
invariant_of-self-clause-fits c = c.learn_at-is_new.ensures.fits c.args.self.now.kind c.args.self.now.fits c.requires

pub invariant_of-self-clause-listed : goal.invariant_of-self-clause-listed
invariant_of-self-clause-listed c = subst (AreListed c.args.self.now.inputs) (sym c.learn_at-is_new.ensures.view) c.args.self.now.listed

pub returns-clause-tasks : goal.returns-clause-tasks
returns-clause-tasks c place = c.learn_at-is_new.ensures.tasks c.args.self.now.kind place
