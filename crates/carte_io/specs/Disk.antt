-- A disk as its clauses see it: what a read gives, and what a crash may leave.
use Rattle.std.specs.Prelude.{◌≡◌, ◌⊎◌, ℕ, ◌+◌, ◌-◌, ◌<◌, ◌≤◌, max, List, [], ◌∷◌, ◌++◌, length, take, drop, replicate, slice_index, Option, Some, None}

-- one moment: what a read gives, what was there at the last sync, the ranges written since, each from its first offset to its end, the newest first,
-- and how many calls of write and sync had passed
pub record Moment : Type 0 where
  pub reads : List ℕ
  pub synced : List ℕ
  pub written : List (ℕ × ℕ)
  pub passed : ℕ

-- the moments so far, the past ones newest first, and how many calls of write and sync its disk lets pass in all: none where there is no bound
pub record Story : Type 0 where
  pub now : Moment
  pub past : List Moment
  pub most : Option ℕ

-- an offset lies in one of the ranges
abbrev pub IsWritten : List (ℕ × ℕ) → ℕ → Type 0
IsWritten [] i = ⊥
IsWritten (range ∷ ranges) i = ((range.0 ≤ i) × (i < range.1)) ⊎ IsWritten ranges i

-- the greatest of a length and the ends of the ranges
abbrev pub longest : ℕ → List (ℕ × ℕ) → ℕ
longest n [] = n
longest n (range ∷ ranges) = max range.1 (longest n ranges)

-- any bytes in each range and past the old end, a length from the old one to the longest end, and the same bytes outside
pub record IsTorn (ranges : List (ℕ × ℕ)) (old new : List ℕ) : Type 0 where
  pub no_shorter : length old ≤ length new
  pub no_longer : length new ≤ longest (length old) ranges
  pub outside : (i : ℕ) → i < length old → ¬ IsWritten ranges i → slice_index new i ≡ slice_index old i

-- what a crash now may leave: what was there at the last sync, with each range written since torn
abbrev pub IsImage : Moment → List ℕ → Type 0
IsImage m image = IsTorn m.written m.synced image

-- all is synced, so a crash leaves exactly what a read gives
pub record IsSettled (m : Moment) : Type 0 where
  pub synced : m.synced ≡ m.reads
  pub written : m.written ≡ []

-- a piece over what is there, with zeros in a gap behind the end
abbrev pub put_at : List ℕ → ℕ → List ℕ → List ℕ
put_at old at piece = take at (old ++ replicate (at - length old) 0) ++ piece ++ drop (at + length piece) old

-- the story goes on to a moment
abbrev pub goes_to : Story → Moment → Story
goes_to s m = record { now = m; past = s.now ∷ s.past; most = s.most }

-- so many calls passed, n bytes at an offset were written, and a read gives this now
abbrev pub written_at : Moment → ℕ → ℕ → ℕ → List ℕ → Moment
written_at m calls at n reads = record { reads = reads; synced = m.synced; written = (at, at + n) ∷ m.written; passed = m.passed + calls }

abbrev pub wrote : ℕ → List ℕ → Story → Story
wrote at piece s = goes_to s (written_at s.now 1 at (length piece) (put_at s.now.reads at piece))

abbrev pub did_sync : Story → Story
did_sync s = goes_to s (record { reads = s.now.reads; synced = s.now.reads; written = []; passed = s.now.passed + 1 })

abbrev pub range_of : ℕ → ℕ → List (ℕ × ℕ)
range_of at n = (at, at + n) ∷ []

-- a write that failed: nothing happened, or its range may hold any bytes
abbrev pub FailsToWrite : ℕ → ℕ → Story → Story → Type 0
FailsToWrite at n old new = (new ≡ old)
    ⊎ ((reads : List ℕ) × IsTorn (range_of at n) old.now.reads reads × (new ≡ goes_to old (written_at old.now 0 at n reads)))

-- a sync that failed: what a read gives now is one of the images, which are as before
abbrev pub FailsToSync : Story → Story → Type 0
FailsToSync old new = (new ≡ old)
    ⊎ ((reads : List ℕ) × IsImage old.now reads × (new ≡ goes_to old (record old.now { reads = reads })))

abbrev pub moments : Story → List Moment
moments s = s.now ∷ s.past

-- each of these moments has Q
abbrev pub EachMoment : (Moment → Type 0) → List Moment → Type 0
EachMoment Q [] = Unit {0}
EachMoment Q (m ∷ ms) = Q m × EachMoment Q ms

-- each moment from the old story's last to the new one's has Q
pub record Throughout (old new : Story) (Q : Moment → Type 0) : Type 0 where
  pub later : List Moment
  pub goes_on : moments new ≡ later ++ moments old
  -- and the disk lets as many writing calls pass in all as before
  pub bound : new.most ≡ old.most
  pub first : Q old.now
  pub each : EachMoment Q later

-- each image at a moment has P
abbrev pub Leaves : (List ℕ → Type 0) → Moment → Type 0
Leaves P m = (image : List ℕ) → IsImage m image → P image

-- a crash at any moment from the old story's last to the new one's leaves a file that has P
abbrev pub LeavesOnly : Story → Story → (List ℕ → Type 0) → Type 0
LeavesOnly old new P = Throughout old new (Leaves P)

-- of moments, the newest first, none has more calls passed than a newer one
abbrev pub CountsUp : List Moment → Type 0
CountsUp [] = Unit {0}
CountsUp (m ∷ ms) = EachMoment (λ older. older.passed ≤ m.passed) ms × CountsUp ms

-- a count is within a bound, where there is one
abbrev pub IsWithin : Option ℕ → ℕ → Type 0
IsWithin None n = Unit {0}
IsWithin (Some most) n = n ≤ most

-- what a disk that tells nothing is seen as
abbrev pub untold : Story
untold = record { now = record { reads = []; synced = []; written = []; passed = 0 }; past = []; most = None }
