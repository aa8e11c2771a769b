use Rattle.std.proofs.Common.{◌≡◌, take}
use Rattle.carte_journal.proofs.body.Bodies.copy.Given as goal

abbrev pub invariant-loop-body : goal.invariant-loop-body
invariant-loop-body l = record { copied : l.copies ≡ take l.body-index l.body-items; items : l.body-items ≡ l.fn.self }
