use Rattle.std.proofs.Common.{refl, sym, subst}
use Rattle.carte_book.specs.Book.{book_view}
use Rattle.carte_state.specs.States.{Stand}
use Rattle.carte_shell.specs.Replies.{said}
use Rattle.carte_shell.specs.Scenes.{scene}
use Rattle.carte_shell.specs.Watched.{IsWatchedIn}
use Rattle.carte_shell.proofs.Obeying.{sets_apart}
use Rattle.carte_shell.proofs.shell.Shell.obey.Goals as goal

pub returns-in-Set-clause-carried : goal.returns-in-Set-clause-carried
returns-in-Set-clause-carried g c =
    let see = scene g.D.Disk.story g.D.Disk.faults in
    let told = sets_apart said g.D.Disk.tells (see (c.args.self.now, c.args.disk.now)) (see (c.set.new.self, c.args.disk.now)) c.in-Set.name c.in-Set.value c.set.result
    c.set.ensures.choices c.set.ensures.engine refl refl c.set.ensures.set in
    rw c.in-Set.is told

pub invariant_of-self : goal.invariant_of-self
invariant_of-self g c =
    let known = c.know_digests-in-Explain.new.self in
    record { watched = subst (λ (s : Stand). IsWatchedIn s (book_view known.book) known.watch) (sym c.explanation.ensures.kept) known.watched }
