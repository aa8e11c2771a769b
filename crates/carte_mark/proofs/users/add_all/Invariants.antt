use Rattle.std.proofs.Common.{take}
use Rattle.carte_value.specs.Truths.{Among}
use Rattle.carte_mark.specs.Tables.{AddsFor, users_by}
use Rattle.carte_mark.proofs.users.add_all.Given as goal

abbrev pub invariant-loop-name : goal.invariant-loop-name
invariant-loop-name l = AddsFor (users_by l.initial.users) (users_by l.users) l.key (Among (take l.name-index l.name-items))
