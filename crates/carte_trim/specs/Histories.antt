-- Trims between runs of `carte` over one state, each of which a crash may cut off at any moment.
use Rattle.std.specs.Prelude.{ℕ, ◌≡◌, ◌⊎◌, List, [], ◌∷◌, ◌++◌}
use Rattle.carte_io.specs.Disk.{Story}
use Rattle.carte_io.specs.Streams.{SinkState}
use Rattle.carte_book.specs.Book.{Book}
use Rattle.carte_sound.specs.Base.{HasDistinctDigests}
use Rattle.carte_top.specs.Histories.{AreBooks, IsLeft, IsRunFrom, Run}
use Rattle.carte_top.specs.Sound.{KeepsSound}
use Rattle.carte_trim.specs.Around.{Around}
use Rattle.carte_trim.specs.New.{IsNew}
use Rattle.carte_trim.specs.Whole.{IsOutcome}
use Rattle.carte_trim.specs.declared.status.Status.{Status}

-- a trim over devices that tell all, before and after, how it ended, and the file that the next run finds
pub record Trim : Type 0 where
  pub words : List (List ℕ)
  pub state : Story
  pub state_after : Story
  pub state_failed_before : ℕ
  pub state_failed : ℕ
  pub new : Story
  pub new_after : Story
  pub new_failed_before : ℕ
  pub new_failed : ℕ
  pub out : SinkState
  pub out_after : SinkState
  pub err : SinkState
  pub err_after : SinkState
  pub status : Status
  pub file : List ℕ

abbrev pub around_of : Trim → Around
around_of t = record {
  words = t.words;
  state = record { tells = Unit {0}; old = t.state; new = t.state_after; failed_before = t.state_failed_before; failed = t.state_failed; same = t.state_after ≡ t.state };
  new = record { tells = Unit {0}; old = t.new; new = t.new_after; failed_before = t.new_failed_before; failed = t.new_failed; same = t.new_after ≡ t.new };
  out = record { tells = Unit {0}; old = t.out; new = t.out_after };
  err = record { tells = Unit {0}; old = t.err; new = t.err_after };
}

-- a trim of this file, all of it on the disk, into a new one. The next run finds that one as it was; or the new one in its place, whole or as a crash left it
pub record IsTrimFrom (limit : ℕ) (file : List ℕ) (t : Trim) : Type 0 where
  pub found : t.state.now.reads ≡ file
  pub fresh : IsNew t.new
  pub outcome : IsOutcome limit (around_of t) t.status
  pub left : (t.file ≡ file) ⊎ IsLeft t.new t.new_after t.file

pub data Step : Type 0 where
  Runs : Run → Step
  Trims : Trim → Step

-- runs and trims from a file to a file, over these books
abbrev pub AreSteps : ℕ → List ℕ → List Step → List Book → List ℕ → Type 0
AreSteps limit file [] H last = (H ≡ []) × (last ≡ file)
AreSteps limit file (Runs r ∷ steps) H last = (J rest : List Book) × (H ≡ J ++ rest) × AreBooks r J × IsRunFrom limit file r × AreSteps limit r.file steps rest last
AreSteps limit file (Trims t ∷ steps) H last = IsTrimFrom limit file t × AreSteps limit t.file steps H last

-- From an empty file on, whatever the runs do, wherever trims stand between them and each is cut off: the file keeps what is sound for the books so far.
abbrev pub TrimsBetween : Type 0
TrimsBetween = (limit : ℕ) (steps : List Step) (H : List Book) (last : List ℕ) → AreSteps limit [] steps H last → HasDistinctDigests H → KeepsSound limit H last
