use Rattle.std.proofs.Common.{◌≡◌, ◌++◌, drop}
use Rattle.carte_journal.specs.Regions.{AreShort, bytes_of, region_of}
use Rattle.carte_journal.proofs.region.add_frames.Given as goal

abbrev pub invariant-loop-body : goal.invariant-loop-body
invariant-loop-body l = record {
  items : l.body-items ≡ l.fn.bodies;
  short : AreShort (bytes_of (drop l.body-index l.fn.bodies));
  so_far : l.piece.items ++ region_of (bytes_of (drop l.body-index l.fn.bodies)) ≡ l.fn.piece.items ++ region_of (bytes_of l.fn.bodies);
}
