-- The batches that a build may commit one after another, each with a part of the keys that it finished.
use Rattle.std.specs.Prelude.{ℕ, ◌≡◌, ◌<◌, ◌≤◌, false, List, [], ◌∷◌, ◌++◌, length}
use Rattle.std.specs.List.{flat_map}
use Rattle.carte_book.specs.Book.{Book}
use Rattle.carte_record.specs.declared.batch.Batch.{Batch}
use Rattle.carte_record.specs.declared.entry.Entry.{Entry}
use Rattle.carte_record.specs.declared.start.Start.TheVariants.{GoOn}
use Rattle.carte_record.specs.declared.way.Way.{Way}
use Rattle.carte_record.specs.Folds.{batch_traces}
use Rattle.carte_record.specs.Kept.{SomeKept}
use Rattle.carte_value.specs.Lists.{Has}
use Rattle.carte_sound.specs.Begun.{Beginning, IsBeginning, begin, no_change}
use Rattle.carte_sound.specs.Held.{How}
use Rattle.carte_sound.specs.Left.{Finishes, keys_of, left}
use Rattle.carte_sound.specs.Finished.{IsFinishing}
use Rattle.carte_sound.specs.Treated.{IsDoneInOrder, IsDoneSuspending, IsDoneRestarting}
use Rattle.carte_sound.specs.Carries.{Carries}
use Rattle.carte_sound.specs.LeadsTo.{Chaining, chain_stays, chain_behind, marks_left, traces_made}

-- so many keys are a full part
abbrev pub full_part : ℕ
full_part = 256

-- each part is full but the last, and none has no key but where it is the only one
abbrev pub AreSized : {A : Type 0} → List (List A) → Type 0
AreSized [] = ⊥
AreSized (part ∷ []) = length part ≤ full_part
AreSized (part ∷ next ∷ parts) = (length part ≡ full_part) × (0 < length next) × AreSized (next ∷ parts)

-- all of a list in parts, in its order
pub record AreParts {A : Type 0} (all : List A) (parts : List (List A)) : Type 0 where
  pub whole : flat_map (λ part. part) parts ≡ all
  pub sized : AreSized parts

-- of two chains the later one, where nothing comes after
abbrev pub later_chain : {A : Type 0} → List (List ℕ) → List (List ℕ) → List A → List (List ℕ)
later_chain old new [] = new
later_chain old new (x ∷ xs) = old

-- what the keys of a part bring besides those that were finished before, with these marks but those of its keys, and these names dropped
pub record IsOfPart (h : How) (b : Book) (M : SomeKept) (before part : Finishes) (chain : List (List ℕ)) (x : Beginning) (B : Batch) : Type 0 where
  pub starts : B.start ≡ GoOn
  pub gone : B.gone ≡ x.gone
  pub stale : B.stale ≡ marks_left part x
  pub traces : (w : Way) → batch_traces w B ≡ traces_made h b part w
  pub unmarked : (e : Entry) → Has B.entries e → e.stale ≡ false
  pub carries : Carries b (left h b M before M.chain) (left h b M (before ++ part) chain) B

-- a batch for each part: the first has the marks and the dropped names, and the last the chain
abbrev pub AreOfParts : How → Book → SomeKept → List (List ℕ) → Finishes → Beginning → List Finishes → List Batch → Type 0
AreOfParts h b M chain before x [] [] = Unit {0}
AreOfParts h b M chain before x [] (B ∷ Bs) = ⊥
AreOfParts h b M chain before x (part ∷ parts) [] = ⊥
AreOfParts h b M chain before x (part ∷ parts) (B ∷ Bs) =
    IsOfPart h b M before part (later_chain M.chain chain parts) x B
    × AreOfParts h b M chain (before ++ part) no_change parts Bs

-- A build marks and drops, finishes what is done in some order, and brings just what is new by that, part by part.
pub record BringsParts (h : How) (done : SomeKept → List ℕ → Type 0) (chained : Chaining) (K : SomeKept) (b : Book) (Bs : List Batch) : Type 0 where
  pub begun : Beginning
  pub begins : IsBeginning K b begun
  pub finished : Finishes
  pub order : IsFinishing h b (begin K begun) (done (begin K begun)) finished
  pub parts : List Finishes
  pub are_parts : AreParts finished parts
  pub batches : AreOfParts h b (begin K begun) (chained (keys_of finished) K.chain) [] begun parts Bs

-- by each way in which a build goes
abbrev pub PartsInOrder : How → SomeKept → Book → List (List ℕ) → List Batch → Type 0
PartsInOrder h K b targets Bs = BringsParts h (λ M k. IsDoneInOrder b targets k) chain_stays K b Bs

abbrev pub PartsRefused : How → SomeKept → Book → List Batch → Type 0
PartsRefused h K b Bs = BringsParts h (λ M k. ⊥) chain_stays K b Bs

abbrev pub PartsSuspending : How → SomeKept → Book → List (List ℕ) → List Batch → Type 0
PartsSuspending h K b targets Bs = BringsParts h (λ M k. IsDoneSuspending h M b targets k) chain_stays K b Bs

abbrev pub PartsRestarting : How → SomeKept → Book → List (List ℕ) → List Batch → Type 0
PartsRestarting h K b targets Bs = BringsParts h (λ M k. IsDoneRestarting h M b targets k) chain_behind K b Bs

-- a station of a build: what the keys leave that it finished first, and with its chain once all are
pub record IsStationOf (h : How) (b : Book) (M : SomeKept) (finished : Finishes) (chain : List (List ℕ)) (L : SomeKept) : Type 0 where
  pub before : Finishes
  pub after : Finishes
  pub all : before ++ after ≡ finished
  pub station : L ≡ left h b M before (later_chain M.chain chain after)
