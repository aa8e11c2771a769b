use Rattle.std.proofs.Common.{◌≡◌, ◌-◌, ◌<◌, ◌^◌}
use Rattle.carte_bank.specs.Moves.{move_from, move_in}
use Rattle.carte_bank.proofs.moves.find_move.Given as goal

abbrev pub invariant-frames : goal.invariant-frames
invariant-frames g l = record {
  inside : l.gate < l.len;
  small : l.gate < 2 ^ 32;
  same : g.D.Disk.tells → g.D.Disk.story l.disk ≡ g.D.Disk.story l.fn.disk;
  kept : g.D.Disk.faults l.disk ≡ g.D.Disk.faults l.fn.disk;
  found : g.D.Disk.tells → move_in l.limit (g.D.Disk.story l.fn.disk).now.reads ≡ move_from l.limit l.gate (g.D.Disk.story l.fn.disk).now.reads;
}

abbrev pub decreases-frames : goal.decreases-frames
decreases-frames g l = l.len - l.gate
