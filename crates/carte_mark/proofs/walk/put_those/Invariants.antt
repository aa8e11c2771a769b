use Rattle.std.proofs.Common.{take}
use Rattle.carte_record.specs.Kept.{kept_view}
use Rattle.carte_mark.specs.Tables.{PutsUsers, names_at}
use Rattle.carte_mark.proofs.walk.put_those.Given as goal

abbrev pub invariant-loop-number : goal.invariant-loop-number
invariant-loop-number l = PutsUsers (kept_view l.kept) (names_at l.users.names (take l.number-index l.numbers)) l.initial.reached l.reached
