use Rattle.carte_book.specs.Book.{book_view}
use Rattle.carte_top.specs.Around.{over_disk, over_sink}
use Rattle.carte_top.proofs.Requesting.{cleans}
use Rattle.carte_top.proofs.one.clean.Goals as goal

pub returns : goal.returns
returns g c =
    cleans 536870912 c.choices_of.result (book_view c.new-book.result)
    (over_disk g.D.Disk.tells g.D.Disk.story g.D.Disk.faults c.args.state.now c.one.new.state)
    (over_sink g.O.Sink.tells g.O.Sink.state c.args.out.now c.one.new.out) c.one.result c.one.ensures
