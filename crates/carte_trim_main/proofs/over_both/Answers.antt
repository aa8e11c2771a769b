use Rattle.std.proofs.Common.{ap}
use Rattle.carte_trim.specs.Around.{over_disk}
use Rattle.carte_trim_main.proofs.Over.{over_real}
use Rattle.carte_trim_main.proofs.over_both.Goals as goal

pub returns : goal.returns
returns g c =
    over_real c.args.words.now (over_disk g.S.Disk.tells g.S.Disk.story g.S.Disk.faults c.args.state.now c.trim.new.state)
    (over_disk g.N.Disk.tells g.N.Disk.story g.N.Disk.faults c.args.new.now c.trim.new.new) c.trim.result
    c.of-out.result.1 c.trim.new.out.1 c.of-err.result.1 c.trim.new.err.1 (ap (λ s. s.1) c.of-out.ensures) (ap (λ s. s.1) c.of-err.ensures) c.trim.ensures
