use Rattle.std.proofs.Common.{sym, ap, ◌∙◌, subst}
use Rattle.carte_book.specs.Book.{book_view}
use Rattle.carte_state.specs.States.{Stand}
use Rattle.carte_shell.specs.Watched.{IsWatchedBehind, IsWatchedIn}
use Rattle.carte_shell.proofs.shell.Shell.worked_out.Goals as goal

pub invariant_of-self-2 : goal.invariant_of-self-2
invariant_of-self-2 g c =
    let begun = c.begin.new.self in
    record { watched = subst (λ (s : Stand). IsWatchedIn s (book_view begun.book) begun.watch) (sym c.plan.ensures.kept) begun.watched }

pub invariant_of-self-in-Break-branch-2 : goal.invariant_of-self-in-Break-branch-2
invariant_of-self-in-Break-branch-2 g c =
    let begun = c.begin.new.self in
    record { watched = subst (λ (s : Stand). IsWatchedIn s (book_view begun.book) begun.watch) (sym c.plan.ensures.kept) begun.watched }

pub invariant_of-self-in-Break-branch-3 : goal.invariant_of-self-in-Break-branch-3
invariant_of-self-in-Break-branch-3 g c =
    let begun = c.begin.new.self in
    record { watched = subst (λ (s : Stand). IsWatchedIn s (book_view begun.book) begun.watch) (sym c.plan.ensures.kept) begun.watched }

pub returns-clause-learned : goal.returns-clause-learned
returns-clause-learned g c =
    let old = c.args.self.now in
    let b = book_view old.book in
    let watch = c.in_ok-watch.watch in
    let Bs = c.as_slice.result.now in
    let here = subst (λ (s : Stand). IsWatchedBehind s (book_view c.begin.new.self.book) Bs watch) (c.plan.ensures.kept ∙ c.begin.ensures.engine) c.in_ok-watch.ensures.learned in
    subst (λ Cs. IsWatchedBehind old.engine b Cs watch) c.as_slice.ensures.value (subst (λ d. IsWatchedBehind old.engine d Bs watch) (ap book_view c.begin.ensures.book) here)
