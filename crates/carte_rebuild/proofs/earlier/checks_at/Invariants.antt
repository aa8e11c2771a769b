use Rattle.std.proofs.Common.{◌≡◌, take, option_copied}
use Rattle.carte_rebuild.proofs.Collecting.{checks_at}
use Rattle.carte_rebuild.proofs.earlier.checks_at.Given as goal

abbrev pub invariant-loop-at : goal.invariant-loop-at
invariant-loop-at l = l.checks ≡ checks_at l.task (option_copied l.wanted) l.values l.key l.traces (take l.at-index l.places)
