use Rattle.std.proofs.Common.{take}
use Rattle.carte_bench.specs.Held.{spots_of, book_of}
use Rattle.carte_bench.specs.Waits.{onward}
use Rattle.carte_progress.specs.Reasons.{HaveNone}
use Rattle.carte_progress.proofs.reasons.first_reason.Given as goal

abbrev pub invariant-loop-at : goal.invariant-loop-at
invariant-loop-at g l = HaveNone (onward (book_of l.bench) (spots_of l.bench)) (take l.at l.targets)
