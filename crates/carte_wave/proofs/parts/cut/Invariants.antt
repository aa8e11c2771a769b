use Rattle.std.proofs.Common.{◌≡◌, ◌++◌, length}
use Rattle.carte_wave.specs.Parts.{jobs_in}
use Rattle.carte_wave.proofs.parts.cut.Given as goal

abbrev pub invariant-loop-number : goal.invariant-loop-number
invariant-loop-number g l = record { jobs : jobs_in l.parts.items ++ l.jobs.items ≡ l.fn.jobs.items; count : length l.parts.items ≡ l.number }
