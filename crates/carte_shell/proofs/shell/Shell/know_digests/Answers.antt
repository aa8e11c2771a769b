use Rattle.std.proofs.Common.{sym, subst}
use Rattle.carte_shell.specs.Watched.{IsWatchedIn}
use Rattle.carte_shell.proofs.shell.Shell.know_digests.Goals as goal

pub invariant_of-self : goal.invariant_of-self
invariant_of-self g c =
    let old = c.args.self.now in
    record { watched = subst (λ b. IsWatchedIn old.engine b old.watch) (sym c.know_digests.ensures) old.watched }
