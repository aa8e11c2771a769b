use Rattle.std.proofs.Common.{ap, ◌∙◌}
use Rattle.carte_book.specs.Book.{book_view}
use Rattle.carte_record.specs.Kept.{kept_view}
use Rattle.carte_mark.specs.Reached.{is_other}
use Rattle.carte_mark.proofs.Watching.{other_told, told}
use Rattle.carte_mark.proofs.watch.is_changed.Goals as goal

pub returns-then-has_changed : goal.returns-then-has_changed
returns-then-has_changed c = told (kept_view c.args.kept.now) (book_view c.args.book.now) c.args.name.now c.has_changed.result c.has_changed.ensures c.if-has_changed.true

pub returns : goal.returns
returns c =
    let K = kept_view c.args.kept.now in
    let k = c.args.name.now in
    other_told K (book_view c.args.book.now) k c.has_changed.result c.is_other.result c.has_changed.ensures c.if-has_changed.false
    (c.is_other.ensures ∙ ap (is_other (K.entries k)) (c.in_ok-task.ensures {u = tt}))
