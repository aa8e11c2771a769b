use Rattle.std.proofs.Common.{Result, Ok, Err, sym, ◌∙◌, subst}
use Rattle.std.specs.Prelude.{IfOk}
use Rattle.carte_book.specs.Book.{book_view}
use Rattle.carte_mark.specs.Watching.{Watches}
use Rattle.carte_record.specs.Folds.{applied}
use Rattle.carte_record.specs.Kept.{kept_view}
use Rattle.carte_shell.proofs.shell.Shell.learned.Goals as goal

if_ok : {A E : Type 0} {P Q : A → Type 0} (r : Result A E) → ((x : A) → P x → Q x) → IfOk r P → IfOk r Q
if_ok (Ok x) f p = f x p
if_ok (Err e) f p = p

pub returns-in-Some-clause-learned : goal.returns-in-Some-clause-learned
returns-in-Some-clause-learned c =
    let b = book_view c.args.self.now.book in
    let Bs = c.args.batches.now in
    let was = c.args.self.now.watched c.in-Some.watch (sym c.take.ensures.value ∙ c.in-Some.is) in
    let here = subst (λ K. Watches (kept_view K) b c.in-Some.watch) (sym c.kept.ensures) was.1 in
    if_ok c.learn.result (λ o learned w is. (was.0, subst (λ K. Watches (applied (kept_view K) Bs) b w) c.kept.ensures (learned b here w is))) c.learn.ensures
