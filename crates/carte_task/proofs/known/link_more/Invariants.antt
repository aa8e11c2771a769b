use Rattle.std.proofs.Common.{◌≡◌, ◌++◌, take}
use Rattle.carte_effect.specs.Outcomes.{links_of}
use Rattle.carte_task.proofs.known.link_more.Given as goal

abbrev pub invariant-loop-at : goal.invariant-loop-at
invariant-loop-at l = l.links ≡ l.initial.links ++ links_of (take l.at l.more.entries)
