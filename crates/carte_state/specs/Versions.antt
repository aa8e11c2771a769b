-- Both versions side by side: what is kept is of one of them, and each body's batch is of one of their kinds.
use Rattle.std.specs.Prelude.{◌≡◌, ℕ, if◌then◌else◌, List, [], ◌∷◌, Option, Some, None, Result, Ok, Err}
use Rattle.carte_name.specs.declared.NoMemory.{NoMemory}
use Rattle.carte_record.specs.Bodies.{IsBody}
use Rattle.carte_record.specs.Three.{IsBodyThree}
use Rattle.carte_record.specs.Empty.{is_empty}
use Rattle.carte_record.specs.Folds.{apply}
use Rattle.carte_record.specs.Kept.{SomeKept, nothing_kept}
use Rattle.carte_record.specs.declared.batch.Batch.{Batch}
use Rattle.carte_record.specs.declared.start.Start.TheVariants.{Cleared}
use Rattle.carte_record_one.specs.Bodies.{IsBodyOne}
use Rattle.carte_record_one.specs.Folds.{apply_one}
use Rattle.carte_record_one.specs.Kept.{SomeKeptOne, nothing_kept_one}
use Rattle.carte_state.specs.declared.any.AnyBatch.{AnyBatch}
use Rattle.carte_state.specs.declared.any.AnyBatch.TheVariants.{One, Three, Four}

-- what is kept, in the version that it is of
pub data AnyKept : Type 0 where
  InOne : SomeKeptOne → AnyKept
  InTwo : SomeKept → AnyKept

-- the bytes are the batch's of its kind
abbrev pub IsBodyOf : AnyBatch → List ℕ → Type 0
IsBodyOf (One B) body = IsBodyOne B body
IsBodyOf (Three B) body = IsBodyThree B body
IsBodyOf (Four B) body = IsBody B body

-- what bytes were read as: the batch of any kind that they are, or none exactly where they are no batch's
abbrev pub IsBatchOf : List ℕ → Option AnyBatch → Type 0
IsBatchOf body None = (A : AnyBatch) → ¬ (IsBodyOf A body)
IsBatchOf body (Some A) = IsBodyOf A body

abbrev pub IsDecodedAny : List ℕ → Result (Option AnyBatch) NoMemory → Type 0
IsDecodedAny body (Ok o) = IsBatchOf body o
IsDecodedAny body (Err e) = Unit {0}

-- the first byte, by which kinds differ; of no bytes 0, which is no kind
abbrev pub first_byte : List ℕ → ℕ
first_byte [] = 0
first_byte (byte ∷ bytes) = byte

-- a batch of one kind as one of any
abbrev pub as_any : {B : Type 0} → (B → AnyBatch) → Result (Option B) NoMemory → Result (Option AnyBatch) NoMemory
as_any f (Ok None) = Ok None
as_any f (Ok (Some B)) = Ok (Some (f B))
as_any f (Err e) = Err e

-- what some bodies have made: none yet, those of version 1, and those of version 2 without and with one of kind 4
pub data Phase : Type 0 where
  Fresh : Phase
  Ones : SomeKeptOne → Phase
  Threes : SomeKept → Phase
  Fours : SomeKept → Phase

-- before the first nothing is kept, as in version 2
abbrev pub kept_of : Phase → AnyKept
kept_of Fresh = InTwo nothing_kept
kept_of (Ones K) = InOne K
kept_of (Threes K) = InTwo K
kept_of (Fours K) = InTwo K

-- a batch that is applied to what is kept in version 1 begins with nothing kept
abbrev pub Begins : AnyKept → Batch → Type 0
Begins (InOne K) B = B.start ≡ Cleared
Begins (InTwo K) B = Unit {0}

abbrev pub TakesOne : Phase → Type 0
TakesOne Fresh = Unit {0}
TakesOne (Ones K) = Unit {0}
TakesOne (Threes K) = ⊥
TakesOne (Fours K) = ⊥

abbrev pub TakesThree : Phase → Batch → Type 0
TakesThree Fresh B = Unit {0}
TakesThree (Ones K) B = B.start ≡ Cleared
TakesThree (Threes K) B = Unit {0}
TakesThree (Fours K) B = ⊥

-- A batch of version 1 comes first or behind others of version 1. One of version 2 may come anywhere, but behind those of version 1 it begins with nothing kept, and
-- one of kind 3 doesn't come behind one of kind 4.
abbrev pub Takes : Phase → AnyBatch → Type 0
Takes p (One B) = TakesOne p
Takes p (Three B) = TakesThree p B
Takes p (Four B) = Begins (kept_of p) B

-- what a batch of each version finds
abbrev pub one_of : Phase → SomeKeptOne
one_of Fresh = nothing_kept_one
one_of (Ones K) = K
one_of (Threes K) = nothing_kept_one
one_of (Fours K) = nothing_kept_one

abbrev pub two_of : AnyKept → SomeKept
two_of (InOne K) = nothing_kept
two_of (InTwo K) = K

-- with a batch more
abbrev pub taken : AnyBatch → Phase → Phase
taken (One B) p = Ones (apply_one B (one_of p))
taken (Three B) p = Threes (apply B (two_of (kept_of p)))
taken (Four B) p = Fours (apply B (two_of (kept_of p)))

-- what applying it makes, which is of version 2; an empty one isn't applied
abbrev pub apply_to : Batch → AnyKept → AnyKept
apply_to B K = if is_empty B then K else InTwo (apply B (two_of K))
