-- A batch that is cut, as it grows, where a part of the finished keys is full.
use Rattle.std.specs.Prelude.{ℕ, ◌≡◌, List, [], ◌∷◌, ◌++◌, drop, length}
use Rattle.carte_book.specs.Book.{Book}
use Rattle.carte_record.specs.declared.batch.Batch.{Batch}
use Rattle.carte_record.specs.declared.kept.Kept.{Kept}
use Rattle.carte_record.specs.Kept.{SomeKept}
use Rattle.carte_sound.specs.Begun.{Beginning, begin}
use Rattle.carte_sound.specs.Held.{How}
use Rattle.carte_sound.specs.LeadsTo.{empty_batch}
use Rattle.carte_sound.specs.Left.{Finishes}
use Rattle.carte_sound.specs.Parts.{AreOfParts, AreParts}
use Rattle.carte_note.specs.declared.finished.Finished.{Finished}
use Rattle.carte_note.specs.Notes.{AreUnmarked}
use Rattle.carte_note.specs.Right.{finishes_of}
use Rattle.carte_note.specs.Writes.{with_finished}
use Rattle.carte_plan.specs.Planned.{AreGiven, PutsChain}

-- with all that keys bring, one after the other
abbrev pub with_all : How → Book → Kept → List Finished → Batch → Batch
with_all h b K [] B = B
with_all h b K (f ∷ fs) B = with_all h b K fs (with_finished h b K f B)

-- what is cut off: all but the values and the links that were there before
abbrev pub cut_off : Batch → Batch → Batch
cut_off before B = record B { values = drop (length before.values) B.values; seen = drop (length before.seen) B.seen }

-- what goes on: the values and the links, in which later keys are looked up
abbrev pub rest_of : Batch → Batch
rest_of B = record empty_batch { values = B.values; seen = B.seen }

-- the batches that are cut off, behind each part of the keys one
abbrev pub cuts : How → Book → Kept → List (List Finished) → Batch → List Batch
cuts h b K [] B = []
cuts h b K (part ∷ parts) B = cut_off B (with_all h b K part B) ∷ cuts h b K parts (rest_of (with_all h b K part B))

pub record AreCuts (h : How) (b : Book) (K : Kept) (fs : List Finished) (B : Batch) (Bs : List Batch) : Type 0 where
  pub parts : List (List Finished)
  pub are_parts : AreParts fs parts
  pub batches : Bs ≡ cuts h b K parts B

-- no entry of a batch is stale
abbrev pub AllUnmarked : List Batch → Type 0
AllUnmarked [] = Unit {0}
AllUnmarked (B ∷ Bs) = AreUnmarked B.entries × AllUnmarked Bs

-- the keys in parts, and for each part a batch that brings it
pub record ArePartsPlanned (h : How) (K : SomeKept) (b : Book) (x : Beginning) (fs : List Finished) (chain : List (List ℕ)) (Bs : List Batch) : Type 0 where
  pub parts : List Finishes
  pub are_parts : AreParts (finishes_of fs) parts
  pub batches : AreGiven h (begin K x) b fs → AreOfParts h b (begin K x) chain [] x parts Bs

-- with the chain as it was
abbrev pub PlansParts : How → SomeKept → Book → Beginning → List Finished → List Batch → Type 0
PlansParts h K b x fs Bs = ArePartsPlanned h K b x fs (begin K x).chain Bs

-- the chain was put into the last batch, where it isn't the old one
pub record PutsLast (old chain : List (List ℕ)) (Bs Cs : List Batch) : Type 0 where
  pub full : List Batch
  pub last : Batch
  pub chained : Batch
  pub before : Bs ≡ full ++ last ∷ []
  pub behind : Cs ≡ full ++ chained ∷ []
  pub puts : PutsChain old chain last chained

-- the same for a build that leaves this chain
abbrev pub PlansPartsChained : How → SomeKept → Book → Beginning → List Finished → List (List ℕ) → List Batch → Type 0
PlansPartsChained h K b x fs chain Cs = (Bs : List Batch) × PlansParts h K b x fs Bs × PutsLast (begin K x).chain chain Bs Cs
