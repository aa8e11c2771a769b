-- What a crash of a disk in memory leaves, as it is picked.
use Rattle.std.specs.Prelude.{◌≡◌, ◌⊎◌, ℕ, ◌+◌, ◌<◌, ◌≤◌, List, [], ◌∷◌, length, Bool, true, false, slice_index}
use Rattle.carte_io.specs.Disk.{IsWritten, Moment, longest, put_at, range_of}
use Rattle.carte_io.specs.declared.crashes.Pick.{Pick}
use Rattle.carte_io.specs.declared.crashes.Pick.TheVariants.{Lost, Kept, Fill}
use Rattle.carte_io.specs.declared.passed.Passed.{Passed}
use Rattle.carte_io.specs.declared.passed.Passed.TheVariants.{Wrote, Synced}

-- each byte of the ranges and past the old end is this one, and the length is the longest that there may be
pub record IsFilled (byte : ℕ) (ranges : List (ℕ × ℕ)) (old new : List ℕ) : Type 0 where
  pub long : length new ≡ longest (length old) ranges
  pub filled : (i : ℕ) → i < length new → (length old ≤ i) ⊎ IsWritten ranges i → slice_index new i ≡ byte
  pub outside : (i : ℕ) → i < length old → ¬ IsWritten ranges i → slice_index new i ≡ slice_index old i

-- the image that is picked at a moment
abbrev pub IsPicked : Pick → Moment → List ℕ → Type 0
IsPicked Lost m image = image ≡ m.synced
IsPicked Kept m image = image ≡ m.reads
IsPicked (Fill byte) m image = IsFilled byte m.written m.synced image

-- steps on the way there

abbrev pub is_sync : Passed → Bool
is_sync (Wrote at piece) = false
is_sync Synced = true

-- what a read gives after one more call
abbrev pub reads_after : List ℕ → Passed → List ℕ
reads_after reads (Wrote at piece) = put_at reads at piece
reads_after reads Synced = reads

-- none of the calls is a sync
abbrev pub AreWrites : List Passed → Type 0
AreWrites [] = Unit {0}
AreWrites (Wrote at piece ∷ calls) = AreWrites calls
AreWrites (Synced ∷ calls) = ⊥

-- the ranges that the calls write, in front of others
abbrev pub ranges_on : List (ℕ × ℕ) → List Passed → List (ℕ × ℕ)
ranges_on ranges [] = ranges
ranges_on ranges (Wrote at piece ∷ calls) = ranges_on ((at, at + length piece) ∷ ranges) calls
ranges_on ranges (Synced ∷ calls) = ranges_on ranges calls

-- the range of a call is filled, where it has one
abbrev pub FillsCall : ℕ → Passed → List ℕ → List ℕ → Type 0
FillsCall byte (Wrote at piece) old new = IsFilled byte (range_of at (length piece)) old new
FillsCall byte Synced old new = new ≡ old
