use Rattle.std.proofs.Common.{take}
use Rattle.carte_state.proofs.Writing.{FitsTo}
use Rattle.carte_state.proofs.state.State.has_room_for.Given as goal

abbrev pub invariant-loop-batch : goal.invariant-loop-batch
invariant-loop-batch l = FitsTo l.self.journal (take l.batch-index l.batches) l.end
