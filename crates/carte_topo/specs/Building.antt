-- What a build has come to that treats the rules of an order one after the other.
use Rattle.std.specs.Prelude.{ℕ, ◌≡◌, List, [], ◌∷◌, ◌++◌, length, None, Result, Ok, Err}
use Rattle.carte_value.specs.Truths.{Among, HasValue}
use Rattle.carte_book.specs.Book.{Book}
use Rattle.carte_record.specs.Kept.{SomeKept}
use Rattle.carte_sound.specs.Finished.{AreFinished}
use Rattle.carte_sound.specs.Held.{How}
use Rattle.carte_note.specs.Right.{AreRight, finishes_of, keys_in, ran_in}
use Rattle.carte_bench.specs.Spots.{Spots, job_in, seen_in}
use Rattle.carte_bench.specs.Steps.{FitsOf, IsCore}
use Rattle.carte_rebuild.specs.declared.work.Work.{Work}
use Rattle.carte_rebuild.specs.declared.work.WorkEnd.{WorkEnd}
use Rattle.carte_rebuild.specs.declared.work.WorkEnd.TheVariants.{All, Refused}
use Rattle.carte_rebuild.specs.Ends.{IsGiven, IsWork, NothingGivenUp}
use Rattle.carte_topo.specs.declared.building.Fault.{Fault}
use Rattle.carte_topo.specs.declared.building.Fault.TheVariants.{Stopped, NoMemory}
use Rattle.carte_topo.specs.Orders.{IsNext, IsOrder}

-- no job stands on the bench
abbrev pub HaveNoJobs : {J : Type 0} → Spots J → Type 0
HaveNoJobs s = (q : List ℕ) → job_in (s q) ≡ None

-- all but this name is as before
abbrev pub OthersStay : {J : Type 0} → Spots J → Spots J → List ℕ → Type 0
OthersStay old new k = (q : List ℕ) → ¬ (k ≡ q) → new q ≡ old q

-- these rules have their values on the bench and are finished, rightly and in this order; exactly those that ran were started, and have ended
pub record IsSoFar {J : Type 0} (fits : FitsOf J) (h : How) (K : SomeKept) (b : Book) (s : Spots J) (ks : List (List ℕ)) (w : Work) : Type 0 where
  pub core : IsCore fits b s
  pub done : (k : List ℕ) → Among ks k → HasValue (seen_in b s) k
  pub keys : keys_in w.finished ≡ ks
  pub right : AreRight h K b w.finished
  pub order : AreFinished h b K [] (finishes_of w.finished)
  pub starts : w.runs.starts ≡ ran_in w.finished
  pub ends : w.runs.ends ≡ ran_in w.finished

-- behind any rules that it may follow the rule is treated too, and its job doesn't stop
abbrev pub AdvancesBehind : {J : Type 0} → FitsOf J → How → SomeKept → Book → Spots J → Spots J → Work → Work → List ℕ → List (List ℕ) → Result (Unit {0}) Fault → Type 0
AdvancesBehind fits h K b old new w w' k ks (Ok u) = IsSoFar fits h K b new (ks ++ k ∷ []) w'
AdvancesBehind fits h K b old new w w' k ks (Err Stopped) = ⊥
AdvancesBehind fits h K b old new w w' k ks (Err NoMemory) = Unit {0}

-- where what the build began with may be relied on
abbrev pub Advances : {J : Type 0} → FitsOf J → How → SomeKept → Book → Spots J → Spots J → Work → Work → List ℕ → Result (Unit {0}) Fault → Type 0
Advances fits h K b old new w w' k result =
    IsGiven K b → (ks : List (List ℕ)) → IsNext b ks k → IsSoFar fits h K b old ks w → AdvancesBehind fits h K b old new w w' k ks result

-- all of an order, whatever the build began with; a job stops only where that may not be relied on
abbrev pub Treats : How → SomeKept → Book → List (List ℕ) → Result Work Fault → Type 0
Treats h K b ks (Ok w) = (w.chain ≡ None) × (length w.finished ≡ length ks) × (IsGiven K b → IsWork h K b (Among ks) w × NothingGivenUp w) × (keys_in w.finished ≡ ks)
Treats h K b ks (Err Stopped) = ¬ (IsGiven K b)
Treats h K b ks (Err NoMemory) = Unit {0}

-- as many keys are finished as an order of the targets has rules
abbrev pub FinishesAll : Book → List (List ℕ) → WorkEnd → Type 0
FinishesAll b targets (All w) = (ks : List (List ℕ)) × IsOrder b targets ks × (length w.finished ≡ length ks)
FinishesAll b targets (Refused w reason) = Unit {0}
