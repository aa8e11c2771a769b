-- What a turn keeps.
use Rattle.std.proofs.Common.{◌≡◌, ℕ, Bool, List, Option, Some, None, Result, Ok, Err, sym, subst, inl, inr}
use Rattle.carte_value.specs.declared.value.Value.{Value}
use Rattle.carte_value.specs.Once.{Answers}
use Rattle.carte_value.specs.Truths.{Truth, Extends}
use Rattle.carte_value.proofs.Members.{same_or_not}
use Rattle.carte_effect.specs.declared.effect.Halt.{Halt}
use Rattle.carte_effect.specs.declared.look.Stuck.{Stuck}
use Rattle.carte_effect.specs.declared.look.Stuck.TheVariants.{NotDone, Missing}
use Rattle.carte_effect.specs.declared.outcome.Made.{Made}
use Rattle.carte_effect.specs.Jobs.{Step, stopped, DriveFits, Gave}
use Rattle.carte_effect.specs.Ledger.{Ledger}
use Rattle.carte_effect.specs.Sights.{Sight, IsStuck}
use Rattle.carte_book.specs.Book.{Book}
use Rattle.carte_bench.specs.declared.slot.Slot.{Slot}
use Rattle.carte_bench.specs.declared.slot.Slot.TheVariants.{Out}
use Rattle.carte_bench.specs.Spots.{Spots, PutAt, job_in, name_of, slot_after, sight_in, seen_in}
use Rattle.carte_bench.specs.Steps.{FitsOf, GivesOf, IsCore, IsPartOf, step_of}
use Rattle.carte_bench.specs.declared.look.Shown.{Shown}
use Rattle.carte_bench.specs.Held.{shown_spots, shown_book}
use Rattle.carte_bench.specs.Turns.{stops_in, TurnedTo, Turned}
use Rattle.carte_bench.proofs.Puts.{put_here, put_apart}
use Rattle.carte_bench.proofs.Cores.{put_core, job_fits, after_fits, sees_inputs}

-- a stop has the name at which it came
stuck_name : (s : Sight) (k : List ℕ) (x : Stuck) → IsStuck s k x → name_of x ≡ k
stuck_name s k (NotDone j) is = is.0
stuck_name s k (Missing j) is = is.0

-- what all jobs of a bench have is kept where a slot is put whose job has it
pub jobs_put : {J : Type 0} (P : List ℕ → J → Type 0) (s d : Spots J) (k : List ℕ) (x : Slot J) → PutAt s d k x → ((q : List ℕ) (j : J) → job_in (s q) ≡ Some j → P q j) → ((j : J) → job_in (Some x) ≡ Some j → P k j) → (q : List ℕ) (j : J) → job_in (d q) ≡ Some j → P q j
jobs_put P s d k x put all one q j has = elim (same_or_not k q) [
  | inl same ↦ subst (λ i. P i j) same (one j (rw (put_here s d k x put) at (subst (λ i. job_in (d i) ≡ Some j) (sym same) has)))
  | inr other ↦ all q j (rw (put_apart s d k x q other put) at has)
]

module _ {J : Type 0} (name : J → List ℕ) (started : J → Bool) (gives : GivesOf J) (b : Book) (old new : Spots J) (r r' : Ledger) (k : List ℕ) where
  -- the step of the drive
  pub turn_gave : (o : Result Made Stuck) (turned : TurnedTo name started gives b old new r r' k o) → gives turned.before (seen_in b turned.mid) turned.gave.further (step_of o) turned.after
  turn_gave (Ok m) turned = turned.gave.gave
  turn_gave (Err x) turned =
      let stop = turned.gave.gave in
      subst (λ n. gives turned.before (seen_in b turned.mid) turned.gave.further (stopped n) turned.after) (sym (stuck_name (sight_in b turned.mid stop.0) stop.0 x stop.2)) stop.3

  -- what all jobs have is kept where the job that is put back has it
  pub turn_jobs : (P : List ℕ → J → Type 0) (o : Result Made Stuck) (turned : TurnedTo name started gives b old new r r' k o) → ((q : List ℕ) (j : J) → job_in (old q) ≡ Some j → P q j) → ((j : J) → job_in (Some (slot_after turned.after o)) ≡ Some j → P k j) → (q : List ℕ) (j : J) → job_in (new q) ≡ Some j → P q j
  turn_jobs P o turned all one = jobs_put P turned.mid new k (slot_after turned.after o) turned.put (jobs_put P old turned.mid k Out turned.out all (λ j has. cc)) one

  -- each job stays at its name
  pub turn_named : (o : Result Made Stuck) → TurnedTo name started gives b old new r r' k o → ((q : List ℕ) (j : J) → job_in (old q) ≡ Some j → name j ≡ q) → (q : List ℕ) (j : J) → job_in (new q) ≡ Some j → name j ≡ q
  turn_named o turned all = turn_jobs (λ q j. name j ≡ q) o turned all (one o)
    where
      one : (p : Result Made Stuck) (j : J) → job_in (Some (slot_after turned.after p)) ≡ Some j → name j ≡ k
      one (Ok m) j has = cc
      one (Err x) j has = let is : turned.after ≡ j = cc in rw (← is) turned.named

  module _ (fits : FitsOf J) (law : (p : J) (t part : Truth) (k : List ℕ) (v : Option Value) (needs asks : List (List ℕ)) (further : Answers) (step : Step) (q : J) → fits p t k v needs asks → Extends part t → gives p part further step q → DriveFits fits t k v needs asks part further step q) where
    pub turned_core : (o : Result Made Stuck) → TurnedTo name started gives b old new r r' k o → IsCore fits b old → IsCore fits b new
    turned_core o turned core =
        let fit = job_fits fits b old k turned.before core turned.stood in
        let mid : IsCore fits b turned.mid = put_core fits b old turned.mid k Out core fit.0 tt turned.out in
        let part : IsPartOf b turned.mid (seen_in b turned.mid) = record { part = λ q v is. is; inputs = λ i v is. sees_inputs b turned.mid i v is } in
        put_core fits b turned.mid new k (slot_after turned.after o) mid fit.0 (after_fits fits b name gives law turned.mid k turned.before turned.after (seen_in b turned.mid) turned.gave.further o mid fit.1 part (turn_gave o turned)) turned.put

    pub turn_core : (m : Option Made) → Turned name started gives b old new r r' k m → IsCore fits b old → IsCore fits b new
    turn_core (Some m) turned core = turned_core (Ok m) turned core
    turn_core None (x, turned) core = turned_core (Err x) turned core

  pub turn_names : (m : Option Made) → Turned name started gives b old new r r' k m → ((q : List ℕ) (j : J) → job_in (old q) ≡ Some j → name j ≡ q) → (q : List ℕ) (j : J) → job_in (new q) ≡ Some j → name j ≡ q
  turn_names (Some m) turned all = turn_named (Ok m) turned all
  turn_names None (x, turned) all = turn_named (Err x) turned all

-- the same is shown, and the same outcome
pub gave_same : {J : Type 0} (gives : GivesOf J) {m l : Shown J} (p q : J) (o d : Result Made (Halt Stuck)) → m ≡ l → d ≡ o → Gave gives (seen_in (shown_book m) (shown_spots m)) (stops_in (shown_book m) (shown_spots m)) None None p q o → Gave gives (seen_in (shown_book l) (shown_spots l)) (stops_in (shown_book l) (shown_spots l)) None None p q d
gave_same {J = J} gives {m = m} {l = l} p q o d same is gave =
    subst (λ (r : Result Made (Halt Stuck)). Gave gives (seen_in (shown_book l) (shown_spots l)) (stops_in (shown_book l) (shown_spots l)) None None p q r) (sym is) (subst (λ (n : Shown J). Gave gives (seen_in (shown_book n) (shown_spots n)) (stops_in (shown_book n) (shown_spots n)) None None p q o) same gave)
