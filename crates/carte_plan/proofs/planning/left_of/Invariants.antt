use Rattle.std.proofs.Common.{◌≡◌, take}
use Rattle.carte_sound.specs.LeadsTo.{marks_left}
use Rattle.carte_note.specs.Right.{finishes_of}
use Rattle.carte_plan.proofs.planning.left_of.Given as goal

abbrev pub invariant-loop-mark : goal.invariant-loop-mark
invariant-loop-mark l = l.left ≡ marks_left (finishes_of (take l.count l.finished)) (record { marks = take l.mark-index l.mark-items; gone = l.gone })
