use Rattle.std.proofs.Common.{take}
use Rattle.carte_mark.specs.Marking.{IsToMark, ArePicked}
use Rattle.carte_mark.proofs.marking.to_mark.Given as goal

abbrev pub invariant-loop-name : goal.invariant-loop-name
invariant-loop-name l = ArePicked (IsToMark l.entries) (take l.name-index l.name-items) l.marks.items
