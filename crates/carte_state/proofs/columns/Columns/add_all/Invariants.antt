use Rattle.std.proofs.Common.{List, ◌++◌}
use Rattle.carte_record.specs.declared.batch.Batch.{Batch}
use Rattle.carte_state.specs.Columns.{AreColumns, fours_in}
use Rattle.carte_state.proofs.columns.Columns.add_all.Given as goal

abbrev pub invariant-loop-found : goal.invariant-loop-found
invariant-loop-found l = (Bs : List Batch) → AreColumns Bs l.fn.self → AreColumns (Bs ++ fours_in l.yielded) l.self
