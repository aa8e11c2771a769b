-- What a journal stands for, and what a commit may leave.
use Rattle.std.specs.Prelude.{◌≡◌, ℕ, ◌+◌, nat_le, Bool, true, false, cond, List, [], ◌∷◌, ◌++◌, length, Option}
use Rattle.carte_io.specs.Disk.{IsSettled, Story}
use Rattle.carte_io.specs.Stations.{Step}
use Rattle.carte_bank.specs.Roots.{Known}
use Rattle.carte_bank.specs.declared.roots.Roots.{Roots}
use Rattle.carte_journal.specs.Frames.{BodyAt, Ends, Bad, Reading, bank_in, end_of, reading}

-- a journal as its clauses see it: the closed gate byte behind its frames, the most bytes that its file may have,
-- whether the header has still to be written, whether a commit of it failed, the roots of its bank, where it has some, and how many frames that has
pub record Standing : Type 0 where
  pub gate : ℕ
  pub limit : ℕ
  pub fresh : Bool
  pub broken : Bool
  pub bank : Option Roots
  pub frames : ℕ

-- the journal stands for these bodies, and the file holds them
pub record IsRead (j : Standing) (bodies : List BodyAt) (file : List ℕ) : Type 0 where
  pub reads : reading j.limit file ≡ Ends j.gate bodies
  pub fresh_is : j.fresh ≡ nat_le (length file) 9
  pub bank_is : bank_in j.limit file ≡ Known j.bank
  pub frames_is : j.frames ≡ length bodies

-- and all of the file is on the disk
pub record IsAtRest (j : Standing) (bodies : List BodyAt) (story : Story) : Type 0 where
  pub read : IsRead j bodies story.now.reads
  pub settled : IsSettled story.now

-- the offset at which a reading is bad
abbrev pub IsBadAt : Reading → ℕ → Type 0
IsBadAt (Ends gate bodies) offset = ⊥
IsBadAt (Bad gate) offset = offset ≡ gate

-- how many bytes the file needs with one body more
abbrev pub needed_for : Standing → List ℕ → ℕ
needed_for j body = end_of j.gate body + 1

-- how many writing calls a commit makes
abbrev pub calls_of : Standing → ℕ
calls_of j = cond j.fresh 6 4

-- the journal after a commit of a body
abbrev pub committed : Standing → List ℕ → Standing
committed j body = record j { gate = end_of j.gate body; fresh = false; broken = false; frames = j.frames + 1 }

-- a commit of it failed
abbrev pub broke : Standing → Standing
broke j = record j { broken = true }

-- the file is read so
abbrev pub IsReadAs : ℕ → Reading → List ℕ → Type 0
IsReadAs limit r file = reading limit file ≡ r

-- with one body more
abbrev pub with_body : Standing → List BodyAt → List ℕ → Reading
with_body j bodies body = Ends (end_of j.gate body) (bodies ++ (j.gate, body) ∷ [])

-- a commit as a step from what the file is read as before it
abbrev pub step_of : Standing → List BodyAt → List ℕ → Step Reading
step_of j bodies body = record { calls = calls_of j; to = with_body j bodies body }
