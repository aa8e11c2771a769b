use Rattle.std.proofs.Common.{◌≡◌, sym, ◌∙◌, subst}
use Rattle.carte_book.specs.Book.{book_view}
use Rattle.carte_mark.specs.Watching.{Watches}
use Rattle.carte_state.specs.States.{kept_in}
use Rattle.carte_shell.proofs.shell.Shell.suspected.Goals as goal

pub returns-in_ok-suspect-in-Some-clause-suspects : goal.returns-in_ok-suspect-in-Some-clause-suspects
returns-in_ok-suspect-in-Some-clause-suspects c d same w is =
    let K = kept_in c.args.self.now.engine in
    let new = c.in_ok-suspect-in-Some.field-0 in
    let was = c.args.self.now.watched c.in-Some.watch (sym c.take.ensures.value ∙ c.in-Some.is) in
    let it : new ≡ w = cc in
    (was.0, subst (Watches K d) it ((c.in_ok-suspect-in-Some.ensures {u = tt}) K (book_view c.args.self.now.book) d same was.1))
