-- What a build answers, and the batches that it may commit.
use Rattle.std.specs.Prelude.{ℕ, ◌≡◌, ◌+◌, ◌↔◌, List, [], ◌∷◌, length, Some}
use Rattle.carte_value.specs.declared.value.Value.{Value}
use Rattle.carte_value.specs.Truths.{Among, IsListOf, NoneTwice, Truth}
use Rattle.carte_effect.specs.Ledger.{Ledger, given_up as left_open, no_runs}
use Rattle.carte_book.specs.Book.{Book, clean}
use Rattle.carte_book.specs.declared.reason.Reason.{Reason}
use Rattle.carte_record.specs.declared.batch.Batch.{Batch}
use Rattle.carte_record.specs.Kept.{SomeKept}
use Rattle.carte_sound.specs.Begun.{Beginning, IsBeginning, begin}
use Rattle.carte_sound.specs.Chains.{IsRightChain}
use Rattle.carte_sound.specs.Held.{How}
use Rattle.carte_sound.specs.Parts.{PartsInOrder, PartsRefused, PartsRestarting, PartsSuspending}
use Rattle.carte_sound.specs.Treated.{IsDoneRestarting, IsDoneSuspending, IsRun, IsTreated, IsTreatedRestarting}
use Rattle.carte_state.specs.Versions.{AnyKept}
use Rattle.carte_rebuild.specs.Ends.{GivesUp, StartsAnew}
use Rattle.carte_engine.specs.declared.answer.Answer.{Answer}
use Rattle.carte_engine.specs.declared.answer.Answer.TheVariants as answer
use Rattle.carte_engine.specs.declared.answer.Built.{Built}
use Rattle.carte_engine.specs.declared.scheduler.Scheduler.{Scheduler}
use Rattle.carte_engine.specs.declared.scheduler.Scheduler.TheVariants.{Topological, Restarting, Suspending}
use Rattle.carte_engine.specs.Schedulers.{IsDoneBy, IsServed, IsRefusedFor}
use Rattle.carte_engine.specs.Versions.{OverFound, kept_for}

-- the batches that a build with such an answer may commit over what it finds, one after another
abbrev pub LeadsOver : Scheduler → How → Book → List (List ℕ) → Answer → SomeKept → List Batch → Type 0
LeadsOver Topological h b targets (answer.Built built) K Bs = PartsInOrder h K b targets Bs
LeadsOver Topological h b targets (answer.Refused reason runs) K Bs = PartsRefused h K b Bs
LeadsOver Restarting h b targets a K Bs = PartsRestarting h K b targets Bs
LeadsOver Suspending h b targets a K Bs = PartsSuspending h K b targets Bs

-- and over what is kept, of either version
abbrev pub Leads : Scheduler → How → AnyKept → Book → List (List ℕ) → Answer → List Batch → Type 0
Leads s h A b targets a Bs = OverFound (LeadsOver s h b targets a) A b Bs

-- these are the names' values, in their order
abbrev pub AreValues : Truth → List (List ℕ) → List Value → Type 0
AreValues t [] [] = Unit {0}
AreValues t [] (v ∷ vs) = ⊥
AreValues t (k ∷ ks) [] = ⊥
AreValues t (k ∷ ks) (v ∷ vs) = (t k ≡ Some v) × AreValues t ks vs

-- the tasks of just these rules have ended, each once
pub record HasEnded (ran : List (List ℕ)) (r : Ledger) : Type 0 where
  pub once : NoneTwice r.ends
  pub all : IsListOf (Among r.ends) ran

-- and those of just these were started, each once
pub record HasStarted (ran : List (List ℕ)) (r : Ledger) : Type 0 where
  pub once : NoneTwice r.starts
  pub all : IsListOf (Among r.starts) ran

-- Over what a build begins with, where rules are begun anew: of each rule few starts were in vain, and none at all where the kept chain is right.
pub record GivesFewUp (h : How) (M : SomeKept) (b : Book) (targets : List (List ℕ)) (built : Built) : Type 0 where
  pub few : GivesUp b targets (IsTreatedRestarting h M b targets) built.runs
  pub none : IsRightChain M b targets → built.given_up ≡ 0

-- which tasks were started: those that ended alone, but where rules are begun anew
abbrev pub StartsBy : Scheduler → How → SomeKept → Book → List (List ℕ) → Built → Type 0
StartsBy Topological h M b targets built = HasStarted built.ran built.runs × (built.given_up ≡ 0)
StartsBy Restarting h M b targets built = GivesFewUp h M b targets built
StartsBy Suspending h M b targets built = HasStarted built.ran built.runs × (built.given_up ≡ 0)

-- Each target has a clean value, and these are they. Exactly the rules that are done and not held ran, which the build's ledger tells too, and the others were reused.
pub record IsSuccess (s : Scheduler) (h : How) (K : SomeKept) (b : Book) (targets : List (List ℕ)) (built : Built) : Type 0 where
  pub served : IsServed s b targets
  pub values : AreValues (clean b) targets built.values
  pub begun : Beginning
  pub begins : IsBeginning K b begun
  pub ran : IsListOf (IsRun h (begin K begun) b (IsDoneBy s h (begin K begun) b targets)) built.ran
  pub done : List (List ℕ)
  pub all_done : IsListOf (IsDoneBy s h (begin K begun) b targets) done
  pub count : length built.ran + built.reused ≡ length done
  pub ended : HasEnded built.ran built.runs
  pub started : StartsBy s h (begin K begun) b targets built
  pub given_up : built.given_up ≡ left_open built.runs

-- which rules of a refused build are done: by order none, since it is refused before any is worked out
abbrev pub IsDoneRefused : Scheduler → How → SomeKept → Book → List (List ℕ) → List ℕ → Type 0
IsDoneRefused Topological h M b targets k = ⊥
IsDoneRefused Restarting h M b targets k = IsDoneRestarting h M b targets k
IsDoneRefused Suspending h M b targets k = IsDoneSuspending h M b targets k

-- each task was started once and is of a rule that is treated, and each that has ended was started
pub record StartsOnce (treated : List ℕ → Type 0) (r : Ledger) : Type 0 where
  pub once : NoneTwice r.starts
  pub only : (k : List ℕ) → Among r.starts k → treated k
  pub each : (k : List ℕ) → Among r.ends k → Among r.starts k

-- which tasks of a refused build were started: none where rules are ordered first; where they wait some may have no end; and where they are begun anew a rule was given up at most once for each name that it needs
abbrev pub StartsRefused : Scheduler → How → SomeKept → Book → List (List ℕ) → Ledger → Type 0
StartsRefused Topological h M b targets r = r ≡ no_runs
StartsRefused Restarting h M b targets r = StartsAnew b (IsTreatedRestarting h M b targets) r
StartsRefused Suspending h M b targets r = StartsOnce (IsTreated h M b targets) r

-- Some target has no value, for this reason; and in the ledger the tasks of just the rules that are done and not held have ended, each once.
pub record IsRefusal (s : Scheduler) (h : How) (K : SomeKept) (b : Book) (targets : List (List ℕ)) (reason : Reason) (runs : Ledger) : Type 0 where
  pub refused : IsRefusedFor s b targets reason
  pub begun : Beginning
  pub begins : IsBeginning K b begun
  pub once : NoneTwice runs.ends
  pub ended : (k : List ℕ) → Among runs.ends k ↔ IsRun h (begin K begun) b (IsDoneRefused s h (begin K begun) b targets) k
  pub started : StartsRefused s h (begin K begun) b targets runs

abbrev pub IsAnswer : Scheduler → How → SomeKept → Book → List (List ℕ) → Answer → Type 0
IsAnswer s h K b targets (answer.Built built) = IsSuccess s h K b targets built
IsAnswer s h K b targets (answer.Refused reason runs) = IsRefusal s h K b targets reason runs

-- so it is of an answer that refuses for this, with some ledger
abbrev pub OnRefusal : Reason → (Answer → Type 0) → Type 0
OnRefusal reason P = (runs : Ledger) × P (answer.Refused reason runs)

-- the answer is right over what the build finds, and the batches are those that it may commit
pub record IsPlan (s : Scheduler) (h : How) (A : AnyKept) (b : Book) (targets : List (List ℕ)) (Bs : List Batch) (a : Answer) : Type 0 where
  pub leads : Leads s h A b targets a Bs
  pub right : IsAnswer s h (kept_for A b) b targets a
