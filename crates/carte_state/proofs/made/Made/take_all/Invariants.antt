use Rattle.std.proofs.Common.{List}
use Rattle.carte_journal.specs.Frames.{BodyAt}
use Rattle.carte_state.specs.Folding.{IsFolded}
use Rattle.carte_state.specs.Parts.{AreFound, made_view}
use Rattle.carte_state.proofs.made.Made.take_all.Given as goal

abbrev pub invariant-loop-found : goal.invariant-loop-found
invariant-loop-found l = (bodies : List BodyAt) → AreFound bodies l.yielded → IsFolded (made_view l.fn.self) bodies (made_view l.self)
