-- What a state stands for, and what a batch makes of it.
use Rattle.std.specs.Prelude.{◌≡◌, ◌⊎◌, ℕ, ◌≤◌, true, is_some, if◌then◌else◌, List, [], ◌∷◌, Option, Some, None}
use Rattle.carte_io.specs.Disk.{Story}
use Rattle.carte_io.specs.Stations.{Step}
use Rattle.carte_journal.specs.Frames.{BodyAt}
use Rattle.carte_journal.specs.Journals.{IsAtRest, IsRead, Standing, calls_of, committed, needed_for}
use Rattle.carte_record.specs.Bodies.{spelled_batch}
use Rattle.carte_record.specs.Folds.{apply}
use Rattle.carte_record.specs.Kept.{SomeKept, kept_view, nothing_kept}
use Rattle.carte_record.specs.declared.batch.Batch.{Batch}
use Rattle.carte_record.specs.declared.kept.Kept.{Kept}
use Rattle.carte_record.specs.Empty.{is_empty}
use Rattle.carte_record_one.specs.Kept.{kept_one_view}
use Rattle.carte_record_one.specs.declared.kept.KeptOne.{KeptOne}
use Rattle.carte_state.specs.Folding.{Makes}
use Rattle.carte_state.specs.Versions.{AnyKept, InOne, InTwo, apply_to, two_of}

-- a state as its clauses see it
pub record Stand : Type 0 where
  pub journal : Standing
  pub kept : Kept
  -- what is kept in version 1, where the bodies are of that version
  pub one : Option KeptOne

abbrev pub kept_in : Stand → SomeKept
kept_in s = kept_view s.kept

-- what a state keeps, in its version
abbrev pub any_of : Option KeptOne → SomeKept → AnyKept
any_of None K = InTwo K
any_of (Some J) K = InOne (kept_one_view J)

abbrev pub any_in : Stand → AnyKept
any_in s = any_of s.one (kept_in s)

-- the file was read so: these bodies, and they make what is kept; where that is of version 1, nothing is kept of version 2
pub record IsLoaded (s : Stand) (file : List ℕ) : Type 0 where
  pub bodies : List BodyAt
  pub read : IsRead s.journal bodies file
  pub makes : Makes bodies (any_in s)
  pub bare : is_some s.one ≡ true → kept_in s ≡ nothing_kept

-- the file keeps what the state does, and all of it is on the disk
pub record IsKeptOn (s : Stand) (story : Story) : Type 0 where
  pub bodies : List BodyAt
  pub rest : IsAtRest s.journal bodies story
  pub makes : Makes bodies (any_in s)

-- how many bytes the file needs with a batch more
abbrev pub needs_for : Stand → Batch → ℕ
needs_for s B = needed_for s.journal (spelled_batch B)

-- there is room for it; an empty one takes none
abbrev pub HasRoom : Stand → Batch → Type 0
HasRoom s B = (is_empty B ≡ true) ⊎ (needs_for s B ≤ s.journal.limit)

-- the journal behind it
abbrev pub journal_after : Standing → Batch → Standing
journal_after j B = if is_empty B then j else committed j (spelled_batch B)

-- behind a batch all is of version 2
pub record IsAfter (B : Batch) (old new : Stand) : Type 0 where
  pub journal : new.journal ≡ journal_after old.journal B
  pub kept : kept_in new ≡ apply B (kept_in old)
  pub any : any_in new ≡ apply_to B (any_in old)
  pub one : new.one ≡ None

-- how many writing calls it makes, and the step that it is
abbrev pub calls_for : Standing → Batch → ℕ
calls_for j B = if is_empty B then 0 else calls_of j

abbrev pub step_for : Standing → AnyKept → Batch → List (Step AnyKept)
step_for j K B = if is_empty B then [] else record { calls = calls_of j; to = InTwo (apply B (two_of K)) } ∷ []
