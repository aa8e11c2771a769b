use Rattle.std.proofs.Common.{◌≡◌, ◌++◌}
use Rattle.carte_rebuild.specs.Gathering.{links_in}
use Rattle.carte_rebuild.proofs.gather.listed.Given as goal

abbrev pub invariant-loop-name : goal.invariant-loop-name
invariant-loop-name l = l.links ++ links_in l.name-iterator ≡ links_in l.fn.gathered.entries
