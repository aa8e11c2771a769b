use Rattle.std.proofs.Common.{◌≡◌, ◌-◌, ◌<◌, ◌≤◌, ◌^◌, length}
use Rattle.carte_journal.specs.Frames.{frames_from}
use Rattle.carte_journal.proofs.Walks.{adds}
use Rattle.carte_journal.proofs.load.load_bodies.Given as goal

abbrev pub invariant-frames : goal.invariant-frames
invariant-frames g l = record {
  inside : l.gate < l.len;
  small : l.gate < 2 ^ 32;
  behind : l.start ≤ l.gate;
  same : g.D.Disk.tells → g.D.Disk.story l.disk ≡ g.D.Disk.story l.fn.disk;
  room : length l.bodies ≤ l.gate;
  kept : g.D.Disk.faults l.disk ≡ g.D.Disk.faults l.fn.disk;
  read : g.D.Disk.tells → frames_from l.limit l.start (g.D.Disk.story l.fn.disk).now.reads
      ≡ adds l.bodies (frames_from l.limit l.gate (g.D.Disk.story l.fn.disk).now.reads);
}

abbrev pub decreases-frames : goal.decreases-frames
decreases-frames g l = l.len - l.gate
