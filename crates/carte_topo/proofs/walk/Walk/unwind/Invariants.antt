use Rattle.std.proofs.Common.{◌≡◌, ◌++◌, ◌∷◌, [], length}
use Rattle.carte_topo.specs.Walk.{names, unwound}
use Rattle.carte_topo.proofs.walk.Walk.unwind.Given as goal

abbrev pub invariant-loop-frame : goal.invariant-loop-frame
invariant-loop-frame l = (l.path ++ unwound (names l.self.path.items) (l.fn.last ∷ []) ≡ unwound (names l.fn.self.path.items) (l.fn.last ∷ [])) × (l.self.done ≡ l.fn.self.done)

abbrev pub decreases-loop-frame : goal.decreases-loop-frame
decreases-loop-frame l = length l.self.path.items
