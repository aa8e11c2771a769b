use Rattle.std.proofs.Common.{sym, ◌∙◌}
use Rattle.carte_shell.proofs.shell.Shell.taken.Goals as goal

pub returns-in-Some-clause-watches : goal.returns-in-Some-clause-watches
returns-in-Some-clause-watches c = (c.args.self.now.watched c.in-Some.watch (sym c.take.ensures.value ∙ c.in-Some.is)).1
