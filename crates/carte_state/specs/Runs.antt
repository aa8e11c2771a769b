-- Batches one after another.
use Rattle.std.specs.Prelude.{◌≡◌, ℕ, ◌+◌, ◌<◌, ◌≤◌, List, [], ◌∷◌, ◌++◌}
use Rattle.carte_codec.specs.Each.{EachFits}
use Rattle.carte_io.specs.Stations.{Step}
use Rattle.carte_journal.specs.Journals.{Standing}
use Rattle.carte_record.specs.Bodies.{IsUnmarked}
use Rattle.carte_record.specs.declared.batch.Batch.{Batch}
use Rattle.carte_state.specs.Versions.{AnyKept, Begins, apply_to}
use Rattle.carte_state.specs.States.{calls_for, journal_after, step_for}

-- none has an entry that is marked stale
abbrev pub AreUnmarked : List Batch → Type 0
AreUnmarked [] = Unit {0}
AreUnmarked (B ∷ Bs) = EachFits IsUnmarked B.entries × AreUnmarked Bs

-- where what is kept is of version 1, the first one begins with nothing kept
abbrev pub BeginAll : AnyKept → List Batch → Type 0
BeginAll K [] = Unit {0}
BeginAll K (B ∷ Bs) = Begins K B

-- what is kept after them, the journal and the calls
abbrev pub applied_to : AnyKept → List Batch → AnyKept
applied_to K [] = K
applied_to K (B ∷ Bs) = applied_to (apply_to B K) Bs

abbrev pub journal_behind : Standing → List Batch → Standing
journal_behind j [] = j
journal_behind j (B ∷ Bs) = journal_behind (journal_after j B) Bs

abbrev pub calls_of_all : Standing → List Batch → ℕ
calls_of_all j [] = 0
calls_of_all j (B ∷ Bs) = calls_for j B + calls_of_all (journal_after j B) Bs

-- the batches as steps
abbrev pub steps_of : Standing → AnyKept → List Batch → List (Step AnyKept)
steps_of j K [] = []
steps_of j K (B ∷ Bs) = step_for j K B ++ steps_of (journal_after j B) (apply_to B K) Bs

-- some of the batches were applied, and of the calls of the next one not all passed: so many had passed before, and so many have now
pub record EndsIn (j : Standing) (batches : List Batch) (before now : ℕ) : Type 0 where
  pub done : List Batch
  pub next : Batch
  pub rest : List Batch
  pub all : batches ≡ done ++ next ∷ rest
  pub made : before + calls_of_all j done ≤ now
  pub fewer : now < before + calls_of_all j done + calls_for (journal_behind j done) next
