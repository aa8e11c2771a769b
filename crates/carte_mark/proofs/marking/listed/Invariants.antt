use Rattle.std.proofs.Common.{◌≡◌}
use Rattle.carte_mark.proofs.marking.listed.Given as goal

abbrev pub invariant-loop-name : goal.invariant-loop-name
invariant-loop-name l = l.names ≡ l.yielded
