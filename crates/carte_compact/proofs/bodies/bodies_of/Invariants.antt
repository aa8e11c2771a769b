use Rattle.std.proofs.Common.{◌≡◌, length, take}
use Rattle.carte_compact.specs.Lengths.{AreBodies, AreShort}
use Rattle.carte_compact.proofs.bodies.bodies_of.Given as goal

abbrev pub invariant-loop-batch : goal.invariant-loop-batch
invariant-loop-batch l = record {
  many : length l.bodies ≡ l.batch-index;
  bodies : AreBodies (take l.batch-index l.batches) l.bodies;
  short : AreShort l.bodies;
}
