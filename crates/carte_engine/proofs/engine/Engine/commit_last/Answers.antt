use Rattle.std.proofs.Common.{subst}
use Rattle.carte_state.specs.Around.{over_disk}
use Rattle.carte_state.specs.States.{Stand}
use Rattle.carte_engine.specs.Committing.{CommitsAll}
use Rattle.carte_engine.proofs.engine.Engine.commit_last.Goals as goal

pub returns-then-not-may_write : goal.returns-then-not-may_write
returns-then-not-may_write g c =
    let d = over_disk g.D.Disk.tells g.D.Disk.story g.D.Disk.faults c.args.disk.now c.commit.new.disk in
    (c.commit.new.self, subst (λ (s : Stand). CommitsAll d s c.commit.new.self c.args.batches.items c.commit.result) c.may_write.ensures.same c.commit.ensures)
