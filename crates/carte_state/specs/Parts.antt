-- Bodies as they are read, one by one or in neighbouring parts, and put together.
use Rattle.std.specs.Prelude.{◌≡◌, ◌<◌, ℕ, Bool, true, false, List, [], ◌∷◌, ◌++◌, Option, Some, None, Result, Ok, Err, Vec, length, slice_index_or}
use Rattle.carte_name.specs.declared.NoMemory.{NoMemory}
use Rattle.carte_journal.specs.Frames.{BodyAt}
use Rattle.carte_journal.specs.declared.faults.LoadFault.{LoadFault}
use Rattle.carte_journal.specs.declared.faults.LoadFault.TheVariants as fault
use Rattle.carte_record.specs.Kept.{kept_view}
use Rattle.carte_record.specs.declared.batch.Batch.{Batch}
use Rattle.carte_record.specs.declared.kept.Kept.{Kept}
use Rattle.carte_record_one.specs.Kept.{kept_one_view}
use Rattle.carte_state.specs.Folding.{IsBadBody, IsFolded}
use Rattle.carte_state.specs.Versions.{Begins, Fours, Fresh, IsBatchOf, Ones, Phase, Takes, Threes, kept_of, taken, two_of}
use Rattle.carte_state.specs.declared.any.AnyBatch.{AnyBatch}
use Rattle.carte_state.specs.declared.made.Made.{Made}
use Rattle.carte_state.specs.declared.made.Made.TheVariants.{Nothing, Old, Before, Now}
use Rattle.carte_state.specs.declared.parts.Cuts.{Cuts}
use Rattle.carte_state.specs.declared.parts.Found.{Found}
use Rattle.carte_state.specs.declared.parts.Part.{Part}

-- what bodies have made, as contracts see it
abbrev pub made_view : Made → Phase
made_view Nothing = Fresh
made_view (Old K) = Ones (kept_one_view K)
made_view (Before K) = Threes (kept_view K)
made_view (Now K) = Fours (kept_view K)

-- what a batch of version 2 finds, or none where it may not begin there
abbrev pub Finds : Phase → Batch → Option Kept → Type 0
Finds p B (Some K) = Begins (kept_of p) B × (kept_view K ≡ two_of (kept_of p))
Finds p B None = ¬ (Begins (kept_of p) B)

-- one of kind 4 has come
abbrev pub is_behind_four : Phase → Bool
is_behind_four Fresh = false
is_behind_four (Ones K) = false
is_behind_four (Threes K) = false
is_behind_four (Fours K) = true

-- with a batch more, or none where one of its kind may not come there
abbrev pub IsNext : Phase → AnyBatch → Result (Option Made) NoMemory → Type 0
IsNext p A (Ok None) = ¬ (Takes p A)
IsNext p A (Ok (Some m)) = Takes p A × (made_view m ≡ taken A p)
IsNext p A (Err e) = Unit {0}

-- a body at this offset that may not come there is bad
abbrev pub made_at : ℕ → Result (Option Made) NoMemory → Result Made LoadFault
made_at at (Ok None) = Err (fault.BadState at)
made_at at (Ok (Some m)) = Ok m
made_at at (Err e) = Err fault.NoMemory

-- each of these stands so to the one in its place
abbrev pub AllPairs : {A B : Type 0} → (A → B → Type 0) → List A → List B → Type 0
AllPairs R [] [] = Unit {0}
AllPairs R [] (y ∷ ys) = ⊥
AllPairs R (x ∷ xs) [] = ⊥
AllPairs R (x ∷ xs) (y ∷ ys) = R x y × AllPairs R xs ys

-- what a body was read as, with the offset of its gate byte
abbrev pub IsFoundIn : BodyAt → Found → Type 0
IsFoundIn body f = (f.offset ≡ body.0) × IsBatchOf body.1 f.batch

abbrev pub AreFound : List BodyAt → List Found → Type 0
AreFound = AllPairs IsFoundIn

-- what reading comes to: the bodies make what is seen so, or the first bad one is at this offset
abbrev pub ReadsTo : {A : Type 0} → (A → Phase) → Phase → List BodyAt → Result A LoadFault → Type 0
ReadsTo view p bodies (Ok made) = IsFolded p bodies (view made)
ReadsTo view p bodies (Err (fault.BadState at)) = IsBadBody p bodies at
ReadsTo view p bodies (Err fault.DiskFault) = ⊥
ReadsTo view p bodies (Err fault.NoMemory) = Unit {0}

-- the bodies of parts, one part behind the other
abbrev pub bodies_in : List Part → List BodyAt
bodies_in [] = []
bodies_in (p ∷ ps) = p.bodies.items ++ bodies_in ps

-- those of parts that are whole, and of one that was begun
abbrev pub held_in : Cuts → List BodyAt
held_in c = bodies_in c.parts.items ++ c.begun.items

module _ {Z : Type 0} where
  -- what a part's bodies were read as
  abbrev pub ReadsPart : Part → Result (Vec Found Z) NoMemory → Type 0
  ReadsPart p (Ok founds) = AreFound p.bodies.items founds.items
  ReadsPart p (Err e) = Unit {0}

  -- so was each, in order
  abbrev pub ReadsEach : List Part → List (Result (Vec Found Z) NoMemory) → Type 0
  ReadsEach ps rs = (i : ℕ) (p : Part) (r : Result (Vec Found Z) NoMemory) → i < length ps → ReadsPart (slice_index_or ps i p) (slice_index_or rs i r)
