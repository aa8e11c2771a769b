use Rattle.std.proofs.Common.{ap, ◌∙◌}
use Rattle.carte_book.specs.Book.{book_view}
use Rattle.carte_mark.specs.Puts.{put_all}
use Rattle.carte_mark.proofs.Watching.{begun_by}
use Rattle.carte_mark.proofs.watch.begun_over.Goals as goal

pub returns : goal.returns
returns c changed users =
    let ns = c.args.changed.now in
    let put = (c.in_ok-put_each.ensures {u = tt}).put ∙ ap (λ ks. put_all ks ns) c.new-names.ensures in
    begun_by c.args.kept.now (book_view c.args.book.now) ns c.put_each.new.reached c.in_ok-reached.reached _ _ put (c.in_ok-gone.ensures {u = tt}) (c.in_ok-reached.ensures {u = tt}) (c.in_ok-marks.ensures {u = tt}) changed users
