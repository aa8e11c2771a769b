use Rattle.std.proofs.Common.{take}
use Rattle.carte_mark.specs.Tables.{users_by}
use Rattle.carte_mark.proofs.Using.{AreUsersSoFar}
use Rattle.carte_mark.proofs.users.table.Given as goal

abbrev pub invariant-loop-entry : goal.invariant-loop-entry
invariant-loop-entry l = AreUsersSoFar l.entries (take l.entry-index l.entry-items) (users_by l.users)
