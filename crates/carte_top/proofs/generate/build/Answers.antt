use Rattle.std.proofs.Common.{ℕ, List, subst}
use Rattle.carte_book.specs.Book.{book_view}
use Rattle.carte_words.specs.declared.line.Line.TheVariants as line
use Rattle.carte_top.specs.Around.{over_disk, over_sink}
use Rattle.carte_top.specs.Running.{RequestsOver}
use Rattle.carte_top.proofs.generate.build.Goals as goal

pub returns : goal.returns
returns g c =
    let d = over_disk g.D.Disk.tells g.D.Disk.story g.D.Disk.faults c.args.state.now c.one.new.state in
    let k = over_sink g.O.Sink.tells g.O.Sink.state c.args.out.now c.one.new.out in
    subst (λ (front : List ℕ). RequestsOver 536870912 c.args.choices (book_view c.args.prepared.book) (line.Build c.args.prepared.targets) front d k c.one.result) c.as_str.ensures.value c.one.ensures
