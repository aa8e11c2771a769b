use Rattle.carte_record.specs.Kept.{kept_view}
use Rattle.carte_mark.specs.Reached.{Spreads}
use Rattle.carte_mark.proofs.reach.reached.Given as goal

abbrev pub invariant-loop : goal.invariant-loop
invariant-loop l = Spreads (kept_view l.kept) l.fn.names l.reached
