use Rattle.std.proofs.Common.{◌≡◌, ◌++◌, drop}
use Rattle.carte_trim.specs.Lists.{newest_of}
use Rattle.carte_trim.proofs.newest.newest_in.Given as goal

abbrev pub invariant-loop-at : goal.invariant-loop-at
invariant-loop-at g l = l.list ++ newest_of g.T.Keyed.key_of l.count (drop l.at l.traces) ≡ newest_of g.T.Keyed.key_of l.count l.traces
