use Rattle.std.proofs.Common.{ap, ◌∙◌}
use Rattle.carte_book.specs.Book.{book_view}
use Rattle.carte_record.specs.Kept.{kept_view}
use Rattle.carte_mark.specs.Puts.{put_all}
use Rattle.carte_mark.specs.Watching.{suspects_in, users_in}
use Rattle.carte_mark.proofs.Watching.{are_changed, changed_put, users_of, watches_left}
use Rattle.carte_mark.proofs.watch.Watch.begin.Goals as goal

pub returns : goal.returns
returns c =
    let K = kept_view c.args.kept.now in
    let b = book_view c.args.book.now in
    let ks = suspects_in c.args.self in
    let d = users_in c.args.self in
    let ns = c.in_ok-changed.changed in
    let picked = c.in_ok-changed.ensures {u = tt} in
    let js = c.put_each.new.reached in
    let put = (c.in_ok-put_each.ensures {u = tt}).put ∙ ap (λ is. put_all is ns) c.new-suspects.ensures in
    record {
      begun = λ so. (c.in_ok-begun.ensures {u = tt}) (are_changed K b ks ns d picked so) (users_of K b ks d so);
      watches = λ so. watches_left K b ks js d (changed_put K b ns js put (are_changed K b ks ns d picked so)) so;
    }
