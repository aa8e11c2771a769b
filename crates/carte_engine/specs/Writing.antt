-- The last commit of a process.
use Rattle.std.specs.Prelude.{◌≡◌, true, List, ◌∷◌, None, Result}
use Rattle.carte_record.specs.declared.batch.Batch.{Batch}
use Rattle.carte_state.specs.Around.{OverDisk}
use Rattle.carte_state.specs.States.{Stand}
use Rattle.carte_state.specs.Writing.{FitInTurn}
use Rattle.carte_state.specs.declared.fault.ApplyFault.{ApplyFault}
use Rattle.carte_engine.specs.Committing.{CommitsAll, IsNotDue}

-- the batches were put, or some of them: there is a state behind them, which isn't held in memory any more
abbrev pub CommitsLast : OverDisk → Stand → List Batch → Result (Unit {0}) ApplyFault → Type 0
CommitsLast d old Bs result = (new : Stand) × CommitsAll d old new Bs result

-- all of them can be written as the file stands: it is of version 2, no rewriting is due before the first, and there is room for each
pub record MayWrite (s : Stand) (Bs : List Batch) : Type 0 where
  pub two : s.one ≡ None
  pub fits : FitInTurn s.journal Bs
  pub undue : (B : Batch) (Cs : List Batch) → Bs ≡ B ∷ Cs → IsNotDue true s B
