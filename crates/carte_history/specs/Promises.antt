-- What a history promises of each of its runs.
use Rattle.std.specs.Prelude.{ℕ, ◌≡◌, ◌⊎◌, ◌<◌, ◌≤◌, List, [], ◌∷◌, ◌++◌}
use Rattle.carte_io.specs.MemDisks.{story_of}
use Rattle.carte_io.specs.Stations.{calls_in, last_of}
use Rattle.carte_io.specs.declared.crashes.Pick.{Pick}
use Rattle.carte_book.specs.Book.{Book}
use Rattle.carte_record.specs.Kept.{nothing_kept}
use Rattle.carte_sound.specs.Base.{HasDistinctDigests}
use Rattle.carte_state.specs.Folding.{Keeps}
use Rattle.carte_report.specs.declared.status.Status.{Status}
use Rattle.carte_report.specs.declared.status.Status.TheVariants.{DiskFault, StateFull, NoMemory}
use Rattle.carte_top.specs.Due.{IsDue}
use Rattle.carte_top.specs.Histories.{AreBooks, Run as RunOver}
use Rattle.carte_history.specs.declared.run.Run.{Run}
use Rattle.carte_history.specs.declared.run.Shown.{Shown}
use Rattle.carte_history.specs.declared.run.Stop.{Stop}
use Rattle.carte_history.specs.declared.run.Stop.TheVariants as stops
use Rattle.carte_history.specs.Shown.{AreShown, IsStopped, Ran, around_of}
use Rattle.carte_history.specs.Steps.{AreSteps, Steps}
use Rattle.carte_engine.specs.Versions.{IsSoundAny}
use Rattle.carte_state.specs.Versions.{AnyKept, InTwo}

-- the run by the stories of its disk alone
abbrev pub run_over : Ran → RunOver
run_over r = record {
  words = r.words;
  book = r.book;
  book_after = r.book_after;
  script = r.script;
  script_after = r.script_after;
  old = story_of r.old;
  new = story_of r.new;
  failed_before = r.old.faults;
  failed = r.new.faults;
  out = r.out;
  out_after = r.out_after;
  err = r.err;
  err_after = r.err_after;
  status = r.status;
  file = r.file;
}

-- ---- stations

-- one of the stations: this one, or one to which the steps lead
abbrev pub IsOneOf : AnyKept → Steps → AnyKept → Type 0
IsOneOf K [] L = L ≡ K
IsOneOf K (step ∷ steps) L = (L ≡ K) ⊎ IsOneOf step.to steps L

-- a status behind which all commits of the run were made: the disk didn't fail, and there was room and memory
abbrev pub IsWhole : Status → Type 0
IsWhole DiskFault = ⊥
IsWhole (StateFull needed most) = ⊥
IsWhole NoMemory = ⊥
IsWhole status = Unit {0}

-- ---- one run

-- Over what the run finds kept, which is sound for the books so far, and what its image keeps, which is sound for those and its own.
pub record IsPromised (limit : ℕ) (G J : List Book) (stop : Stop) (r : Ran) (K L : AnyKept) : Type 0 where
  pub finds : Keeps limit K (story_of r.old).now.reads
  pub sound : IsSoundAny K G
  pub leaves : Keeps limit L r.file
  pub stays : IsSoundAny L (G ++ J)
  -- its commits up to the last whole reply, and those behind
  pub front : Steps
  pub rest : Steps
  pub commits : AreSteps r.status limit (around_of r) K front rest
  -- the image is at a station no earlier than that of the last whole reply, and at the last one where all commits were made
  pub later : IsOneOf (last_of K front) rest L
  pub last : IsWhole r.status → L ≡ last_of K (front ++ rest)
  -- the disk failed only by its stop, which is 0 or lets fewer writing calls pass than the commits make
  pub only : r.status ≡ DiskFault → (calls : ℕ) × (pick : Pick) × (stop ≡ stops.After calls pick) × ((calls ≡ 0) ⊎ (calls < calls_in (front ++ rest)))
  -- and where it didn't, all calls of these commits were let pass
  pub cut : (calls : ℕ) (pick : Pick) → stop ≡ stops.After calls pick → ¬ (r.status ≡ DiskFault) → calls_in (front ++ rest) ≤ calls
  -- the status is the one that is due, but for a stop and for want of memory
  pub due : (due : Status) → IsDue limit r.words (around_of r).book (around_of r).script (around_of r).state due
      → (r.status ≡ due) ⊎ (r.status ≡ NoMemory) ⊎ ((r.status ≡ DiskFault) × IsStopped stop (story_of r.new).now.passed)

-- ---- all of them

-- the books of the runs, one run after another
abbrev pub AreAllBooks : List Ran → List Book → Type 0
AreAllBooks [] H = H ≡ []
AreAllBooks (r ∷ rans) H = (J rest : List Book) × (H ≡ J ++ rest) × AreBooks (run_over r) J × AreAllBooks rans rest

-- each run finds what the image of the one before it keeps
abbrev pub AllPromised : ℕ → AnyKept → List Book → List Run → List Ran → Type 0
AllPromised limit K G [] [] = Unit {0}
AllPromised limit K G (run ∷ runs) (r ∷ rans) = (L : AnyKept) × (J : List Book) × AreBooks (run_over r) J × IsPromised limit G J run.stop r K L × AllPromised limit L (G ++ J) runs rans
AllPromised limit K G runs rans = ⊥

-- Each run is one of the top call over devices in memory, from a state on that is empty at first. Where the digests of the books are distinct, all that is promised of
-- each holds, and the first one finds nothing kept.
pub record IsHistory (limit : ℕ) (runs : List Run) (shown : List Shown) : Type 0 where
  pub rans : List Ran
  pub last : List ℕ
  pub are_shown : AreShown limit [] runs shown rans last
  pub promised : (H : List Book) → AreAllBooks rans H → HasDistinctDigests H → AllPromised limit (InTwo nothing_kept) [] runs rans
