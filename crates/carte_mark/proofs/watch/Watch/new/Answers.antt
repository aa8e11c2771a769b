use Rattle.carte_book.specs.Book.{book_view}
use Rattle.carte_mark.specs.Tables.{users_by}
use Rattle.carte_mark.proofs.Watching.{watches_first}
use Rattle.carte_mark.proofs.watch.Watch.new.Goals as goal

pub returns : goal.returns
returns c =
    let d = users_by c.in_ok-users.users in
    watches_first c.args.kept.now (book_view c.args.book.now) c.in_ok-suspects.suspects d (c.in_ok-suspects.ensures {u = tt}) (c.in_ok-users.ensures {u = tt})
