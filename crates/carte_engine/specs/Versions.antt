-- What a build of a book finds to be kept, of either version.
use Rattle.std.specs.Prelude.{◌≡◌, List, [], ◌∷◌, ◌++◌, Option, Some, None}
use Rattle.carte_book.specs.Book.{Book}
use Rattle.carte_migrate.specs.Each.{CarriesEach}
use Rattle.carte_record.specs.declared.batch.Batch.{Batch}
use Rattle.carte_record.specs.declared.kept.Kept.{Kept}
use Rattle.carte_record.specs.declared.start.Start.TheVariants.{Cleared}
use Rattle.carte_record.specs.Folds.{apply}
use Rattle.carte_record.specs.Kept.{SomeKept, kept_view, nothing_kept}
use Rattle.carte_record_one.specs.Kept.{SomeKeptOne}
use Rattle.carte_sound.specs.Base.{HasDistinctDigests}
use Rattle.carte_sound.specs.Sound.{IsSound}
use Rattle.carte_sound_one.specs.Sound.{IsSoundOne}
use Rattle.carte_sound_one.specs.Up.{up}
use Rattle.carte_state.specs.Versions.{AnyKept, InOne, InTwo}
use Rattle.carte_engine.specs.declared.answer.Plan.{Plan}

-- what is kept; of version 1 what it becomes by the book
abbrev pub kept_for : AnyKept → Book → SomeKept
kept_for (InOne K) b = up K b
kept_for (InTwo K) b = K

-- sound for a history, in its version
abbrev pub IsSoundAny : AnyKept → List Book → Type 0
IsSoundAny (InOne K) H = IsSoundOne K H
IsSoundAny (InTwo K) H = IsSound K H

-- whatever history what is kept is sound for
abbrev pub Under : AnyKept → Book → Type 0 → Type 0
Under A b P = (H : List Book) → IsSoundAny A H → HasDistinctDigests (H ++ b ∷ []) → P

-- the batch that makes version 2 of it, with each thing once and nothing besides
pub record IsUp (K : SomeKeptOne) (b : Book) (B : Batch) : Type 0 where
  pub start : B.start ≡ Cleared
  pub makes : apply B nothing_kept ≡ up K b
  pub each : CarriesEach B

-- batches over what a build finds: where that is of version 1, behind the one that makes version 2 of it
abbrev pub OverFound : (SomeKept → List Batch → Type 0) → AnyKept → Book → List Batch → Type 0
OverFound P (InOne K) b [] = ⊥
OverFound P (InOne K) b (B ∷ Bs) = IsUp K b B × P (up K b) Bs
OverFound P (InTwo K) b Bs = P K Bs

-- what was made apart from what is kept, or else that
abbrev pub kept_or : SomeKept → Option Kept → SomeKept
kept_or K None = K
kept_or K (Some made) = kept_view made

-- a plan over what is kept, from one over what the build finds
pub record Raises (A : AnyKept) (b : Book) (p q : Plan) : Type 0 where
  pub answer : q.answer ≡ p.answer
  pub batches : OverFound (λ K Bs. Bs ≡ p.batches.items) A b q.batches.items
