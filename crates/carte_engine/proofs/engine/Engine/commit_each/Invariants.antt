use Rattle.std.proofs.Common.{◌≡◌, false}
use Rattle.carte_engine.specs.Committing.{is_first}
use Rattle.carte_engine.proofs.Looping.{SoFar}
use Rattle.carte_engine.proofs.engine.Engine.commit_each.Given as goal

abbrev pub invariant-loop-batch : goal.invariant-loop-batch
invariant-loop-batch g l = record {
  whole : l.self.journal.broken ≡ false;
  first : l.first ≡ is_first l.yielded;
  so_far : SoFar g.D.Disk.tells (g.D.Disk.story l.fn.disk) (g.D.Disk.story l.disk) (g.D.Disk.faults l.fn.disk) (g.D.Disk.faults l.disk) l.fn.self l.yielded l.self;
}
