-- How batches of version 2 were spelled before deep traces named rules. Such a body is read without its deep traces.
use Rattle.std.specs.Prelude.{ℕ, List, [], ◌∷◌, ◌++◌, ◌≡◌, Option, Some, None, Result, Ok, Err}
use Rattle.carte_name.specs.declared.NoMemory.{NoMemory}
use Rattle.carte_codec.specs.Parts.{spelled_option, FitsOption, spelled_list, FitsList}
use Rattle.carte_record.specs.declared.codec.three.KindThree.{KindThree}
use Rattle.carte_record.specs.declared.trace.Trace.{Trace}
use Rattle.carte_record.specs.declared.batch.Batch.{Batch}
use Rattle.carte_record.specs.Bodies.{spelled_names, FitsNames, spelled_trace, FitsTrace, spelled_front, FitsFront}

-- the kind of such a body
abbrev pub kind_three : KindThree
kind_three = record {}

abbrev pub spelled_kind_three : KindThree → List ℕ
spelled_kind_three k = 3 ∷ []

-- the traces of the three kinds, all spelled alike, and the chain
abbrev pub spelled_back_three : Batch → List Trace → List ℕ
spelled_back_three b ds = spelled_list spelled_trace b.verifying ++ (spelled_list spelled_trace b.constructive ++ (spelled_list spelled_trace ds ++ spelled_option spelled_names b.chain))

abbrev pub FitsBackThree : Batch → List Trace → Type 0
FitsBackThree b ds = FitsList FitsTrace b.verifying × (FitsList FitsTrace b.constructive × (FitsList FitsTrace ds × FitsOption FitsNames b.chain))

-- 3 for the kind, and the ten parts
abbrev pub spelled_three : Batch → List Trace → List ℕ
spelled_three b ds = 3 ∷ (spelled_front b ++ spelled_back_three b ds)

abbrev pub FitsThree : Batch → List Trace → Type 0
FitsThree b ds = FitsFront b × FitsBackThree b ds

-- the bytes are the batch's, with some deep traces that it is read without
pub record IsBodyThree (b : Batch) (body : List ℕ) : Type 0 where
  pub deep : List Trace
  pub none : b.deep ≡ []
  pub fits : FitsThree b deep
  pub bytes : body ≡ spelled_three b deep

-- the batch whose bytes these are, or none exactly where they are no batch's of this kind
abbrev pub IsDecodedThree : List ℕ → Result (Option Batch) NoMemory → Type 0
IsDecodedThree body (Ok (Some b)) = IsBodyThree b body
IsDecodedThree body (Ok None) = (b : Batch) → ¬ (IsBodyThree b body)
IsDecodedThree body (Err e) = Unit {0}

-- bytes are of one such batch at most
abbrev pub OneBodyThree : Type 0
OneBodyThree = (b c : Batch) (body : List ℕ) → IsBodyThree b body → IsBodyThree c body → b ≡ c
