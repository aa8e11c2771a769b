use Rattle.std.proofs.Common.{[], refl, subst}
use Rattle.carte_book.specs.Book.{book_view}
use Rattle.carte_shell.specs.declared.choices.Choices.{Choices}
use Rattle.carte_words.specs.declared.line.Line.TheVariants as line
use Rattle.carte_top.specs.Around.{over_source, over_disk, over_sink}
use Rattle.carte_top.specs.Running.{RequestsOver}
use Rattle.carte_top.proofs.Lacking.{tells_no_book}
use Rattle.carte_top.proofs.Requesting.{tells}
use Rattle.carte_top.proofs.one.explain.Goals as goal

pub returns-in-Ok : goal.returns-in-Ok
returns-in-Ok g c =
    let w = c.args.asked in
    let d = over_disk g.D.Disk.tells g.D.Disk.story g.D.Disk.faults c.args.state.now c.one.new.state in
    let k = over_sink g.O.Sink.tells g.O.Sink.state c.args.out.now c.one.new.out in
    tells 536870912 w (over_source g.B.Source.tells g.B.Source.state c.args.source.now c.load_book.new.source) d k
    (book_view c.in-Ok.book) c.in-Ok.ensures.loads c.one.result
    (subst (λ (x : Choices). RequestsOver 536870912 x (book_view c.in-Ok.book) (line.Explain w.targets) [] d k c.one.result) c.choices_of-choices.ensures c.one.ensures)
    c.in-Ok.ensures.read c.in-Ok.ensures.source

pub returns-in-Err : goal.returns-in-Err
returns-in-Err g c =
    tells_no_book c.args.asked (over_source g.B.Source.tells g.B.Source.state c.args.source.now c.load_book.new.source)
    (over_disk g.D.Disk.tells g.D.Disk.story g.D.Disk.faults c.args.state.now c.args.state.now)
    (over_sink g.O.Sink.tells g.O.Sink.state c.args.out.now c.args.out.now)
    536870912 c.in-Err.status c.in-Err.ensures (record { same = refl; story = refl; faults = refl }) (refl, refl, refl)
