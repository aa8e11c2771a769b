-- Batches of kind 4 in columns: each column has a batch in the place of each, with some of its lists.
use Rattle.std.specs.Prelude.{◌≡◌, Bool, true, false, List, [], ◌∷◌, ◌++◌, Option, Some, None, Result, Ok, Err, Vec}
use Rattle.std.specs.List.{list_all}
use Rattle.carte_name.specs.declared.NoMemory.{NoMemory}
use Rattle.carte_record.specs.declared.batch.Batch.{Batch}
use Rattle.carte_state.specs.Parts.{AllPairs}
use Rattle.carte_state.specs.declared.any.AnyBatch.{AnyBatch}
use Rattle.carte_state.specs.declared.any.AnyBatch.TheVariants.{One, Three, Four}
use Rattle.carte_state.specs.declared.columns.Columns.{Columns}
use Rattle.carte_state.specs.declared.parts.Found.{Found}

-- whether a body was read as a batch of kind 4, and that batch
abbrev pub is_any_four : Option AnyBatch → Bool
is_any_four (Some (One B)) = false
is_any_four (Some (Three B)) = false
is_any_four (Some (Four B)) = true
is_any_four None = false

abbrev pub four_in : Option AnyBatch → List Batch
four_in (Some (One B)) = []
four_in (Some (Three B)) = []
four_in (Some (Four B)) = B ∷ []
four_in None = []

abbrev pub is_four : Found → Bool
is_four f = is_any_four f.batch

abbrev pub fours_in : List Found → List Batch
fours_in [] = []
fours_in (f ∷ fs) = four_in f.batch ++ fours_in fs

-- the same of parts
module _ {Z : Type 0} where
  abbrev pub all_four : Result (Vec Found Z) NoMemory → Bool
  all_four (Ok founds) = list_all is_four founds.items
  all_four (Err e) = false

  abbrev pub are_four : List (Result (Vec Found Z) NoMemory) → Bool
  are_four = list_all all_four

  abbrev pub fours_at : Result (Vec Found Z) NoMemory → List Batch
  fours_at (Ok founds) = fours_in founds.items
  fours_at (Err e) = []

  abbrev pub fours_of : List (Result (Vec Found Z) NoMemory) → List Batch
  fours_of [] = []
  fours_of (part ∷ parts) = fours_at part ++ fours_of parts

-- a column's batch begins as the whole one does, and has the lists of the column
pub record HasEntriesOf (B C : Batch) : Type 0 where
  pub start : C.start ≡ B.start
  pub gone : C.gone ≡ B.gone
  pub entries : C.entries ≡ B.entries
  pub stale : C.stale ≡ B.stale

pub record HasVerifyingOf (B C : Batch) : Type 0 where
  pub start : C.start ≡ B.start
  pub gone : C.gone ≡ B.gone
  pub verifying : C.verifying ≡ B.verifying

pub record HasOthersOf (B C : Batch) : Type 0 where
  pub start : C.start ≡ B.start
  pub gone : C.gone ≡ B.gone
  pub values : C.values ≡ B.values
  pub seen : C.seen ≡ B.seen
  pub constructive : C.constructive ≡ B.constructive
  pub deep : C.deep ≡ B.deep
  pub chain : C.chain ≡ B.chain

pub record AreColumns (Bs : List Batch) (c : Columns) : Type 0 where
  pub entries : AllPairs HasEntriesOf Bs c.entries.items
  pub verifying : AllPairs HasVerifyingOf Bs c.verifying.items
  pub others : AllPairs HasOthersOf Bs c.others.items
