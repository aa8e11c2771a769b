use Rattle.std.proofs.Common.{ap}
use Rattle.carte_top.specs.Around.{over_source, over_disk}
use Rattle.carte.proofs.Over.{over_real}
use Rattle.carte.proofs.over_both.Goals as goal

pub returns : goal.returns
returns g c =
    over_real c.args.words.now (over_source g.B.Source.tells g.B.Source.state c.args.book.now c.carte.new.book)
    (over_disk g.D.Disk.tells g.D.Disk.story g.D.Disk.faults c.args.state.now c.carte.new.state) c.carte.result
    c.of-script.result.1 c.carte.new.script.1 c.of-out.result.1 c.carte.new.out.1 c.of-err.result.1 c.carte.new.err.1
    (ap (λ s. s.1) c.of-script.ensures) (ap (λ s. s.1) c.of-out.ensures) (ap (λ s. s.1) c.of-err.ensures) c.carte.ensures
