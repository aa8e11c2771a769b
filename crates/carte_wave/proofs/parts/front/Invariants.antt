use Rattle.std.proofs.Common.{◌≡◌, ◌++◌}
use Rattle.carte_wave.proofs.parts.front.Given as goal

abbrev pub invariant-loop : goal.invariant-loop
invariant-loop g l = l.front.items ++ l.jobs.items ≡ l.fn.jobs.items
