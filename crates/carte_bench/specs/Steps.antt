-- Every order of steps of a bench, and what holds after each.
use Rattle.std.specs.Prelude.{ℕ, ◌≡◌, List, Option, Some, None, Result, Ok, Err, if◌then◌else◌}
use Rattle.carte_value.specs.declared.value.Value.{Value}
use Rattle.carte_name.specs.Names.{name_eq}
use Rattle.carte_value.specs.Once.{Answers}
use Rattle.carte_value.specs.Truths.{Truth, Extends, Among}
use Rattle.carte_effect.specs.declared.look.Stuck.{Stuck}
use Rattle.carte_effect.specs.declared.outcome.Made.{Made}
use Rattle.carte_effect.specs.Jobs.{Step, came, stopped, outcome_of}
use Rattle.carte_book.specs.Book.{input, Book, content, clean}
use Rattle.carte_book.specs.Edits.{IsInput}
use Rattle.carte_book.specs.Needs.{IsRule, needs}
use Rattle.carte_bench.specs.declared.slot.Slot.{Slot}
use Rattle.carte_bench.specs.declared.slot.Slot.TheVariants.{Ready, Stopped, Out, Done}
use Rattle.carte_bench.specs.Spots.{Spots, PutAt, Takes, name_of, slot_after, seen_in}

-- what a job has as meanings: when it fits, and what a drive of it gives
abbrev pub FitsOf : Type 0 → Type 1
FitsOf J = J → Truth → List ℕ → Option Value → List (List ℕ) → List (List ℕ) → Type 0

abbrev pub GivesOf : Type 0 → Type 1
GivesOf J = J → Truth → Answers → Step → J → Type 0

-- it is a job for the key's clean value, that stops at needs of the key alone
abbrev pub FitsBook : {J : Type 0} → FitsOf J → Book → List ℕ → J → Type 0
FitsBook fits b k j = (asks : List (List ℕ)) × fits j (clean b) k (clean b k) (needs b k) asks

-- a stop is at a need that is no input, and what is done is clean
abbrev pub FitsSlot : {J : Type 0} → FitsOf J → Book → List ℕ → Slot J → Type 0
FitsSlot fits b k (Ready j) = FitsBook fits b k j
FitsSlot fits b k (Stopped j n) = FitsBook fits b k j × Among (needs b k) n × ¬ (IsInput b n)
FitsSlot fits b k Out = Unit {0}
FitsSlot fits b k (Done m) = ((outcome_of m).key ≡ k) × (clean b k ≡ Some (outcome_of m).value)

-- each key is a rule; what is done is clean, jobs fit, and what has stopped waits for a need
pub record IsCore {J : Type 0} (fits : FitsOf J) (b : Book) (s : Spots J) : Type 0 where
  pub rules : (k : List ℕ) (x : Slot J) → s k ≡ Some x → IsRule b k
  pub slots : (k : List ℕ) (x : Slot J) → s k ≡ Some x → FitsSlot fits b k x

-- the inputs, and any part of what is done
pub record IsPartOf {J : Type 0} (b : Book) (s : Spots J) (t : Truth) : Type 0 where
  pub part : Extends t (seen_in b s)
  pub inputs : (i : List ℕ) (v : Value) → content b i ≡ Some (input v) → t i ≡ Some v

-- a bench, and the jobs that were taken last
pub record State (J : Type 0) : Type 0 where
  pub spots : Spots J
  pub taken : List ℕ → Option J

abbrev pub step_of : Result Made Stuck → Step
step_of (Ok m) = came m
step_of (Err s) = stopped (name_of s)

abbrev pub with_taken : {J : Type 0} → (List ℕ → Option J) → List ℕ → J → List ℕ → Option J
with_taken taken k j q = if name_eq k q then Some j else taken q

-- a rule that isn't there is demanded; a job that is ready is taken; a job that is out was driven over a part of what is done, and is put back; a job that has stopped is given up for a new one, which waits where it did
pub data Steps {J : Type 0} (name : J → List ℕ) (fits : FitsOf J) (gives : GivesOf J) (b : Book) (s : State J) : State J → Type 0 where
  demands : (j : J) (new : Spots J) → IsRule b (name j) → s.spots (name j) ≡ None → FitsBook fits b (name j) j → PutAt s.spots new (name j) (Ready j) → Steps name fits gives b s (record { spots = new; taken = s.taken })
  takes : (k : List ℕ) (j : J) (new : Spots J) → Takes s.spots new k (Some j) → Steps name fits gives b s (record { spots = new; taken = with_taken s.taken k j })
  puts_back : (k : List ℕ) (p q : J) (t : Truth) (further : Answers) (o : Result Made Stuck) (new : Spots J) → s.taken k ≡ Some p → s.spots k ≡ Some Out → IsPartOf b s.spots t → gives p t further (step_of o) q → PutAt s.spots new k (slot_after q o) → Steps name fits gives b s (record { spots = new; taken = s.taken })
  renews : (k n : List ℕ) (j p : J) (new : Spots J) → s.spots k ≡ Some (Stopped p n) → FitsBook fits b k j → PutAt s.spots new k (Stopped j n) → Steps name fits gives b s (record { spots = new; taken = s.taken })

abbrev pub new_state : {J : Type 0} → State J
new_state = record { spots = λ k. None; taken = λ k. None }

-- every order of steps from an empty bench
pub data Comes {J : Type 0} (name : J → List ℕ) (fits : FitsOf J) (gives : GivesOf J) (b : Book) : State J → Type 0 where
  start : Comes name fits gives b new_state
  next : {s d : State J} → Comes name fits gives b s → Steps name fits gives b s d → Comes name fits gives b d
