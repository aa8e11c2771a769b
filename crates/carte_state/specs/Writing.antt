-- Batches that are written to the file, and not put into what is kept in memory.
use Rattle.std.specs.Prelude.{◌≤◌, List, [], ◌∷◌, None, Result}
use Rattle.carte_journal.specs.Journals.{Standing, needed_for}
use Rattle.carte_record.specs.Bodies.{spelled_batch}
use Rattle.carte_record.specs.declared.batch.Batch.{Batch}
use Rattle.carte_record.specs.declared.kept.Kept.{Kept}
use Rattle.carte_state.specs.Applying.{Applies}
use Rattle.carte_state.specs.Around.{OverDisk}
use Rattle.carte_state.specs.States.{Stand, journal_after}
use Rattle.carte_state.specs.declared.fault.ApplyFault.{ApplyFault}

-- a state of version 2
abbrev pub stand_of : Standing → Kept → Stand
stand_of j K = record { journal = j; kept = K; one = None }

-- Whatever is kept, as lists: there are lists for what is kept after it, with which the batch was applied, or was not, for this reason.
abbrev pub Writes : OverDisk → Standing → Standing → Batch → Result (Unit {0}) ApplyFault → Type 0
Writes d j j' B result = (K : Kept) → (L : Kept) × Applies d (stand_of j K) (stand_of j' L) B result

-- there is room for each of them in the file, behind those in front
abbrev pub FitInTurn : Standing → List Batch → Type 0
FitInTurn j [] = Unit {0}
FitInTurn j (B ∷ Bs) = (needed_for j (spelled_batch B) ≤ j.limit) × FitInTurn (journal_after j B) Bs
