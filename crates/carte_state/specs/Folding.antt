-- What a file keeps: what its bodies make, one after another.
use Rattle.std.specs.Prelude.{◌≡◌, ◌⊎◌, ℕ, List, [], ◌∷◌}
use Rattle.carte_journal.specs.Frames.{Bad, BodyAt, Ends, reading}
use Rattle.carte_record.specs.Kept.{SomeKept}
use Rattle.carte_record_one.specs.Bodies.{IsBodyOne}
use Rattle.carte_record_one.specs.Kept.{SomeKeptOne}
use Rattle.carte_record_one.specs.declared.batch.BatchOne.{BatchOne}
use Rattle.carte_state.specs.declared.any.AnyBatch.{AnyBatch}
use Rattle.carte_state.specs.Versions.{AnyKept, Fresh, InOne, InTwo, IsBodyOf, Phase, Takes, kept_of, taken}

-- the bodies are batches, each where one of its kind may come, and put into what was made they make this
abbrev pub IsFolded : Phase → List BodyAt → Phase → Type 0
IsFolded p [] q = q ≡ p
IsFolded p (body ∷ bodies) q = (A : AnyBatch) × IsBodyOf A body.1 × Takes p A × IsFolded (taken A p) bodies q

-- the first of the bodies that is no batch, or one that may not come there, has its gate byte at this offset
abbrev pub IsBadBody : Phase → List BodyAt → ℕ → Type 0
IsBadBody p [] at = ⊥
IsBadBody p (body ∷ bodies) at =
    (((A : AnyBatch) → IsBodyOf A body.1 → ¬ (Takes p A)) × (at ≡ body.0)) ⊎ ((A : AnyBatch) × IsBodyOf A body.1 × Takes p A × IsBadBody (taken A p) bodies at)

-- what bodies make of nothing
pub record Makes (bodies : List BodyAt) (K : AnyKept) : Type 0 where
  pub phase : Phase
  pub folded : IsFolded Fresh bodies phase
  pub kept : K ≡ kept_of phase

-- what the bytes of a file keep
pub record Keeps (limit : ℕ) (K : AnyKept) (file : List ℕ) : Type 0 where
  pub gate : ℕ
  pub bodies : List BodyAt
  pub reads : reading limit file ≡ Ends gate bodies
  pub makes : Makes bodies K

-- all frames lie in the file, and one of them has a body that is no batch or may not come there
pub record HasBadBody (limit : ℕ) (file : List ℕ) (at : ℕ) : Type 0 where
  pub gate : ℕ
  pub bodies : List BodyAt
  pub reads : reading limit file ≡ Ends gate bodies
  pub bad : IsBadBody Fresh bodies at

-- the offset at which a state is bad
abbrev pub IsBadState : ℕ → List ℕ → ℕ → Type 0
IsBadState limit file at = (reading limit file ≡ Bad at) ⊎ HasBadBody limit file at

-- laws: a file keeps one thing at most, is bad at one offset at most, and not both
abbrev pub KeepsOne : Type 0
KeepsOne = (limit : ℕ) (file : List ℕ) (K L : AnyKept) → Keeps limit K file → Keeps limit L file → K ≡ L

abbrev pub BadAtOne : Type 0
BadAtOne = (limit : ℕ) (file : List ℕ) (at offset : ℕ) → IsBadState limit file at → IsBadState limit file offset → at ≡ offset

abbrev pub KeepsOrBad : Type 0
KeepsOrBad = (limit : ℕ) (file : List ℕ) (K : AnyKept) (at : ℕ) → Keeps limit K file → IsBadState limit file at → ⊥

-- each is a batch of version 1
abbrev pub AreOne : List BodyAt → Type 0
AreOne [] = Unit {0}
AreOne (body ∷ bodies) = ((B : BatchOne) × IsBodyOne B body.1) × AreOne bodies

-- laws: what is kept is of version 1 where there are bodies, all of that version, and there alone
abbrev pub OldIsOne : Type 0
OldIsOne = (bodies : List BodyAt) (K : SomeKeptOne) → Makes bodies (InOne K) → AreOne bodies × ¬ (bodies ≡ [])

abbrev pub OneIsOld : Type 0
OneIsOld = (bodies : List BodyAt) (K : SomeKept) → Makes bodies (InTwo K) → AreOne bodies → bodies ≡ []
