use Rattle.std.proofs.Common.{◌≡◌, false, is_some, sym, ◌∙◌, ap, subst}
use Rattle.carte_book.specs.Book.{book_view}
use Rattle.carte_mark.specs.Bases.{IsBegun}
use Rattle.carte_mark.specs.Watching.{Watches}
use Rattle.carte_record.specs.Kept.{kept_view}
use Rattle.carte_state.specs.States.{Stand}
use Rattle.carte_shell.proofs.Watched.{found_two}
use Rattle.carte_shell.proofs.shell.Shell.begin.Goals as goal

pub invariant_of-self-2 : goal.invariant_of-self-2
invariant_of-self-2 c =
    let old = c.args.self.now in
    let new = c.taken.new.self in
    let b = book_view new.book in
    let kept = c.kept.ensures ∙ ap (λ (s : Stand). s.kept) c.taken.ensures.engine in
    let given = subst (λ K. Watches (kept_view K) b c.in_ok-watch.watch) (sym kept)
    (subst (λ d. Watches (kept_view old.engine.kept) d c.in_ok-watch.watch) (sym (ap book_view c.taken.ensures.book)) c.in_ok-watch.ensures.watches) in
    let none : is_some new.engine.one ≡ false = ap (λ (s : Stand). is_some s.one) c.taken.ensures.engine ∙ (sym c.is_old.ensures ∙ c.if-is_old.false) in
    record {
      watched = λ w is.
          let it : c.in_ok-begun.watch ≡ w = cc in
          (none, subst (Watches (kept_view new.engine.kept) b) it (subst (λ K. Watches (kept_view K) b c.in_ok-begun.watch) c.kept.ensures (c.in_ok-begun.ensures.watches given)));
    }

pub returns-clause-begun : goal.returns-clause-begun
returns-clause-begun c =
    let old = c.args.self.now in
    let new = c.taken.new.self in
    let b = book_view old.book in
    let kept = c.kept.ensures ∙ ap (λ (s : Stand). s.kept) c.taken.ensures.engine in
    let books = ap book_view c.taken.ensures.book in
    let given = subst (λ K. Watches (kept_view K) (book_view new.book) c.in_ok-watch.watch) (sym kept)
    (subst (λ d. Watches (kept_view old.engine.kept) d c.in_ok-watch.watch) (sym books) c.in_ok-watch.ensures.watches) in
    let begun = subst (λ K. IsBegun (kept_view K) b c.in_ok-begun.begun) kept (subst (λ d. IsBegun (kept_view c.kept.result.now) d c.in_ok-begun.begun) books (c.in_ok-begun.ensures.begun given)) in
    subst (λ K. IsBegun K b c.in_ok-begun.begun) (sym (found_two old.engine b (sym c.is_old.ensures ∙ c.if-is_old.false))) begun
