use Rattle.std.proofs.Common.{◌≡◌, refl, subst}
use Rattle.carte_record.specs.Kept.{kept_view}
use Rattle.carte_trim.specs.Around.{over_disk, over_part, over_sink}
use Rattle.carte_trim.specs.Parts.{RunsOver}
use Rattle.carte_trim.proofs.Due.{runs_with}
use Rattle.carte_trim.proofs.Running.{runs_too}
use Rattle.carte_trim.proofs.run.run_for.Goals as goal

pub returns-in-Ok : goal.returns-in-Ok
returns-in-Ok g c =
    let part = over_part g.N.Disk.tells g.N.Disk.story g.N.Disk.faults c.args.new.now c.run_over.new.new in
    let k = over_sink g.O.Sink.tells g.O.Sink.state c.args.out.now c.run_over.new.out in
    let loaded = c.in-Ok.loaded in
    runs_with 536870912 c.args.count (over_disk g.S.Disk.tells g.S.Disk.story g.S.Disk.faults c.args.state.now c.load.new.state)
    (over_disk g.N.Disk.tells g.N.Disk.story g.N.Disk.faults c.args.new.now c.run_over.new.new) k (loaded, c.in-Ok.length) c.in-Ok.ensures c.run_over.result
    (runs_too 536870912 c.args.count (kept_view loaded.kept) c.in-Ok.length part (g.N.Disk.story c.args.new.now) (g.N.Disk.faults c.args.new.now)
    (c.run_over.new.new ≡ c.args.new.now) (λ told. refl) refl k c.run_over.result
    (subst (λ kept. RunsOver 536870912 c.args.count (kept_view kept) c.in-Ok.length part k c.run_over.result) c.kept.ensures c.run_over.ensures))
