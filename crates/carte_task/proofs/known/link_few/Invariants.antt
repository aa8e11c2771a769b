use Rattle.std.proofs.Common.{◌≡◌, ◌++◌, take}
use Rattle.carte_effect.specs.Outcomes.{links_of}
use Rattle.carte_task.proofs.known.link_few.Given as goal

abbrev pub invariant-loop-name : goal.invariant-loop-name
invariant-loop-name l = l.links ≡ l.initial.links ++ links_of (take l.name-index l.name-items)
