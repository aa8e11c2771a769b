use Rattle.std.proofs.Common.{sym, ap, subst}
use Rattle.carte_book.specs.Book.{book_view}
use Rattle.carte_shell.specs.Watched.{IsWatchedIn}
use Rattle.carte_shell.proofs.Watched.{sets_but}
use Rattle.carte_mark.specs.Watching.{SameBut}
use Rattle.carte_state.specs.States.{Stand}
use Rattle.carte_shell.proofs.shell.Shell.set.Goals as goal

pub invariant_of-self-2 : goal.invariant_of-self-2
invariant_of-self-2 c =
    let name = c.args.name.now in
    let new = book_view c.set_input.new.book in
    let sets = (c.in_ok-reply.ensures {u = tt}).set in
    let but = subst (λ b. SameBut name b new) (ap book_view c.suspected.ensures.book) (sets_but (book_view c.suspected.new.self.book) new name c.args.value sets.result sets.sets) in
    record { watched = subst (λ (s : Stand). IsWatchedIn s new c.in_ok-watch.watch) (sym c.suspected.ensures.engine) (c.in_ok-watch.ensures.suspects new but) }
