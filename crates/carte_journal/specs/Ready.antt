-- A file to which a frame can be put: steps on the way to a commit.
use Rattle.std.specs.Prelude.{◌≡◌, ℕ, ◌+◌, ◌<◌, ◌≤◌, List, [], ◌∷◌, ◌++◌, length, take, Option, Some}
use Rattle.carte_io.specs.Disk.{IsSettled, Leaves, Moment, Story, Throughout, put_at, range_of}
use Rattle.carte_io.specs.Stations.{IsMidway, Turns}
use Rattle.carte_bank.specs.Roots.{Known, bank_at, start_of}
use Rattle.carte_bank.specs.Moves.{stated_at}
use Rattle.carte_bank.specs.Turns.{other_at, shut}
use Rattle.carte_bank.specs.declared.roots.Roots.{Roots}
use Rattle.carte_journal.specs.Frames.{BodyAt, Ends, end_of, frames_from, header, reading}

-- the frames from a place on have these bodies, and behind them is a closed gate byte
pub record HasFrames (limit start gate : ℕ) (bodies : List BodyAt) (file : List ℕ) : Type 0 where
  pub inside : start ≤ length file
  pub ends : frames_from limit start file ≡ Ends gate bodies

-- in a bank, behind a header
pub record IsReady (limit : ℕ) (bank : Option Roots) (gate : ℕ) (bodies : List BodyAt) (file : List ℕ) : Type 0 where
  pub begins : take 8 file ≡ header
  pub bank_is : bank_at limit file ≡ Known bank
  pub frames : HasFrames limit (start_of bank) gate bodies file

-- and all of it is on the disk
pub record IsReadyAt (limit : ℕ) (bank : Option Roots) (gate : ℕ) (bodies : List BodyAt) (story : Story) : Type 0 where
  pub file : IsReady limit bank gate bodies story.now.reads
  pub settled : IsSettled story.now

-- at a moment of which at most so many calls had passed, each image holds these bodies
pub record StaysReady (limit gate : ℕ) (bodies : List BodyAt) (count : ℕ) (m : Moment) : Type 0 where
  pub few : m.passed ≤ count
  pub reads : Leaves (λ file. reading limit file ≡ Ends gate bodies) m

-- the header and a closed gate byte
abbrev pub start_bytes : List ℕ
start_bytes = header ++ 0 ∷ []

-- a piece is written and synced, and nothing else; whether both calls pass or not
abbrev pub IsWrittenThrough : ℕ → List ℕ → Story → Story → Type 0
IsWrittenThrough at piece old new =
    Throughout old new (IsMidway (range_of at (length piece)) old.now.reads (put_at old.now.reads at piece) (old.now.passed + 2))

-- at a moment of a call by whose end so many calls have passed: each image holds these bodies, and then this one or not, whole; and from the end on it has it
abbrev pub AddsBody : ℕ → ℕ → List BodyAt → List ℕ → ℕ → Moment → Type 0
AddsBody limit gate bodies body count m =
    Turns (λ file. reading limit file ≡ Ends gate bodies) (λ file. reading limit file ≡ Ends (end_of gate body) (bodies ++ (gate, body) ∷ [])) count m

-- in the steps of a rewriting of a bank: the other root is written but closed, and the bank to which it leads stands
pub record IsStaged (limit : ℕ) (roots : Roots) (gate at end : ℕ) (bodies new : List BodyAt) (file : List ℕ) : Type 0 where
  pub ready : IsReady limit (Some (shut roots)) gate bodies file
  pub generation : stated_at (other_at roots + 1) file ≡ roots.generation + 1
  pub start : stated_at (other_at roots + 9) file ≡ at
  pub frames : frames_from limit at file ≡ Ends end new
  pub behind : roots.place + 34 ≤ at
  pub inside : at < length file
  pub low : at < limit

-- and all of it is on the disk
pub record IsStagedAt (limit : ℕ) (roots : Roots) (gate at end : ℕ) (bodies new : List BodyAt) (story : Story) : Type 0 where
  pub file : IsStaged limit roots gate at end bodies new story.now.reads
  pub settled : IsSettled story.now

-- two pieces are written and synced, and nothing else; whether the calls pass or not
abbrev pub IsPairWritten : ℕ → List ℕ → ℕ → List ℕ → Story → Story → Type 0
IsPairWritten at piece there other old new =
    Throughout old new
    (IsMidway ((there, there + length other) ∷ range_of at (length piece)) old.now.reads (put_at (put_at old.now.reads at piece) there other) (old.now.passed + 3))

-- at a moment of a rewriting by whose end so many calls have passed: each image holds the bodies from before, or those of the region; and from the end on these
abbrev pub TurnsTo : ℕ → ℕ → List BodyAt → ℕ → List BodyAt → ℕ → Moment → Type 0
TurnsTo limit gate bodies end new count m =
    Turns (λ file. reading limit file ≡ Ends gate bodies) (λ file. reading limit file ≡ Ends end new) count m
