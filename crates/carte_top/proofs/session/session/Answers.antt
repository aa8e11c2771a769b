use Rattle.std.proofs.Common.{refl}
use Rattle.carte_book.specs.Book.{book_view}
use Rattle.carte_top.specs.Around.{over_source, over_disk, over_sink}
use Rattle.carte_top.proofs.Lacking.{sits, sits_no_book}
use Rattle.carte_top.proofs.session.session.Goals as goal

pub returns-in-Ok : goal.returns-in-Ok
returns-in-Ok g c =
    sits 536870912 c.args.asked.now (over_source g.B.Source.tells g.B.Source.state c.args.source.now c.load_book.new.source)
    (over_disk g.D.Disk.tells g.D.Disk.story g.D.Disk.faults c.args.state.now c.session_over.new.state)
    (over_sink g.O.Sink.tells g.O.Sink.state c.args.out.now c.session_over.new.out)
    (book_view c.in-Ok.book) c.in-Ok.ensures.loads
    (over_source g.S.Source.tells g.S.Source.state c.args.script.now c.session_over.new.script)
    c.session_over.result c.session_over.ensures c.in-Ok.ensures.read c.in-Ok.ensures.source

pub returns-in-Err : goal.returns-in-Err
returns-in-Err g c =
    sits_no_book c.args.asked.now (over_source g.B.Source.tells g.B.Source.state c.args.source.now c.load_book.new.source)
    (over_disk g.D.Disk.tells g.D.Disk.story g.D.Disk.faults c.args.state.now c.args.state.now)
    (over_sink g.O.Sink.tells g.O.Sink.state c.args.out.now c.args.out.now)
    536870912 c.in-Err.status c.in-Err.ensures (record { same = refl; story = refl; faults = refl }) (refl, refl, refl)
    (over_source g.S.Source.tells g.S.Source.state c.args.script.now c.args.script.now) (refl, refl)
