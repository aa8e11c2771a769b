-- Commits one after another.
use Rattle.std.specs.Prelude.{◌≡◌, ℕ, ◌+◌, ◌<◌, ◌≤◌, List, [], ◌∷◌, ◌++◌}
use Rattle.carte_io.specs.Disk.{Story}
use Rattle.carte_io.specs.Stations.{Step}
use Rattle.carte_journal.specs.Frames.{BodyAt, Reading}
use Rattle.carte_journal.specs.Journals.{IsAtRest, Standing, calls_of, committed, needed_for, step_of}

-- the journal after the commits, the bodies with their places, and the writing calls
abbrev pub committed_all : Standing → List (List ℕ) → Standing
committed_all j [] = j
committed_all j (body ∷ more) = committed_all (committed j body) more

abbrev pub placed : Standing → List (List ℕ) → List BodyAt
placed j [] = []
placed j (body ∷ more) = (j.gate, body) ∷ placed (committed j body) more

abbrev pub calls_for : Standing → List (List ℕ) → ℕ
calls_for j [] = 0
calls_for j (body ∷ more) = calls_of j + calls_for (committed j body) more

-- the commits as steps, behind bodies that are there
abbrev pub steps_of : Standing → List BodyAt → List (List ℕ) → List (Step Reading)
steps_of j bodies [] = []
steps_of j bodies (body ∷ more) = step_of j bodies body ∷ steps_of (committed j body) (bodies ++ (j.gate, body) ∷ []) more

-- some of the bodies were committed, and of the calls of the next one not all passed: so many had passed before, and so many have now
pub record EndsIn (j : Standing) (bodies : List (List ℕ)) (before now : ℕ) : Type 0 where
  pub done : List (List ℕ)
  pub next : List ℕ
  pub rest : List (List ℕ)
  pub all : bodies ≡ done ++ next ∷ rest
  pub made : before + calls_for j done ≤ now
  pub fewer : now < before + calls_for j done + calls_of (committed_all j done)

-- some of the bodies were committed, and all of the file is on the disk
pub record RestsAfter (j : Standing) (bodies : List BodyAt) (more : List (List ℕ)) (new : Standing) (s t : Story) : Type 0 where
  pub done : List (List ℕ)
  pub rest : List (List ℕ)
  pub all : more ≡ done ++ rest
  pub place : new ≡ committed_all j done
  pub made : t.now.passed ≡ s.now.passed + calls_for j done
  pub at_rest : IsAtRest new (bodies ++ placed j done) t

-- some of the bodies were committed, and for the next one there is no room
pub record FullIn (j : Standing) (bodies : List (List ℕ)) (new : Standing) (needed limit : ℕ) : Type 0 where
  pub done : List (List ℕ)
  pub next : List ℕ
  pub rest : List (List ℕ)
  pub all : bodies ≡ done ++ next ∷ rest
  pub place : new ≡ committed_all j done
  pub needed_is : needed ≡ needed_for new next
  pub limit_is : limit ≡ j.limit
  pub over : limit < needed
