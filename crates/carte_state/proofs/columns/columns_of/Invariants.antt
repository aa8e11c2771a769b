use Rattle.carte_state.specs.Columns.{AreColumns, fours_of}
use Rattle.carte_state.proofs.columns.columns_of.Given as goal

abbrev pub invariant-loop-part : goal.invariant-loop-part
invariant-loop-part l = AreColumns (fours_of l.yielded) l.columns
