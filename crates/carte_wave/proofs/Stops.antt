-- What one drive of a wave tells.
use Rattle.std.proofs.Common.{◌≡◌, ℕ, Bool, false, List, Option, Some, None, Result, Ok, Err, refl, sym, subst}
use Rattle.carte_value.specs.declared.value.Value.{Value}
use Rattle.carte_tree.specs.Tree.{Tree}
use Rattle.carte_book.specs.Book.{Item, input, rule, Book, content}
use Rattle.carte_book.specs.Needs.{IsRule}
use Rattle.carte_effect.specs.declared.effect.Halt.{Halt}
use Rattle.carte_effect.specs.declared.effect.Halt.TheVariants.{Stop, NoMemory}
use Rattle.carte_effect.specs.declared.look.Stuck.{Stuck}
use Rattle.carte_effect.specs.declared.look.Stuck.TheVariants.{NotDone, Missing}
use Rattle.carte_effect.specs.declared.outcome.Made.{Made}
use Rattle.carte_effect.specs.Jobs.{stopped, Gave, Counted}
use Rattle.carte_effect.specs.Ledger.{Ledger}
use Rattle.carte_effect.specs.Sights.{Sight, not_done, missing, IsStuck}
use Rattle.carte_bench.specs.declared.slot.Slot.{Slot}
use Rattle.carte_bench.specs.declared.slot.Slot.TheVariants.{Ready, Stopped, Out, Done}
use Rattle.carte_bench.specs.Spots.{Spots, is_done, name_of, done_in, sight_at, sight_in, seen_in}
use Rattle.carte_bench.specs.Steps.{GivesOf, step_of}
use Rattle.carte_bench.specs.Turns.{halted}
use Rattle.carte_progress.specs.Opening.{IsStopIn}
use Rattle.carte_wave.specs.declared.wave.Driven.{Driven}
use Rattle.carte_wave.specs.Drives.{seen_by, stops_by, Drove}
use Rattle.carte_wave.specs.Settling.{StopsIn}

stop_name : (s : Sight) (k : List ℕ) (x : Stuck) → IsStuck s k x → name_of x ≡ k
stop_name s k (NotDone j) is = is.0
stop_name s k (Missing j) is = is.0

rule_undone : (o : Option Item) (v : Option Value) → sight_at o v ≡ not_done → (e : Tree) × (o ≡ Some (rule e))
rule_undone None v is = cc
rule_undone (Some (input w)) v is = cc
rule_undone (Some (rule e)) v is = (e, refl)

none_missing : (o : Option Item) (v : Option Value) → sight_at o v ≡ missing → o ≡ None
none_missing None v is = refl
none_missing (Some (input w)) v is = cc
none_missing (Some (rule e)) None is = cc
none_missing (Some (rule e)) (Some w) is = cc

-- a rule that shows no value isn't done
pub unseen_undone : {J : Type 0} (b : Book) (s : Spots J) (n : List ℕ) → IsRule b n → seen_in b s n ≡ None → is_done (s n) ≡ false
unseen_undone {J = J} b s n held none = at (s n) refl
  where
    at : (o : Option (Slot J)) → s n ≡ o → is_done o ≡ false
    at None is = refl
    at (Some (Ready j)) is = refl
    at (Some (Stopped j m)) is = refl
    at (Some Out) is = refl
    at (Some (Done m)) is = let some = rw (held.1, is) at none in cc

module _ {J : Type 0} (name : J → List ℕ) (started : J → Bool) (gives : GivesOf J) (b : Book) (v : Spots J) (p : J) (d : Driven J) (r r' : Ledger) (drove : Drove name started gives (sight_in b v) p d r r') where
  pub gave_as : (o : Result Made Stuck) → d.outcome ≡ halted o → Gave gives (seen_by (sight_in b v)) (stops_by (sight_in b v)) None None p d.job (halted o)
  gave_as o is = subst (λ (i : Result Made (Halt Stuck)). Gave gives (seen_by (sight_in b v)) (stops_by (sight_in b v)) None None p d.job i) is drove.gave

  pub drove_gave : (o : Result Made Stuck) (is : d.outcome ≡ halted o) → gives p (seen_in b v) (gave_as o is).further (step_of o) d.job
  drove_gave (Ok m) is = (gave_as (Ok m) is).gave
  drove_gave (Err x) is =
      let stop = (gave_as (Err x) is).gave in
      subst (λ n. gives p (seen_in b v) (gave_as (Err x) is).further (stopped n) d.job) (sym (stop_name (sight_in b v stop.0) stop.0 x stop.2)) stop.3

  pub drove_counted : (o : Result Made Stuck) → d.outcome ≡ halted o → Counted {S = Stuck} (name p) (started p) (started d.job) r r' (halted o)
  drove_counted o is = subst (λ (i : Result Made (Halt Stuck)). Counted {S = Stuck} (name p) (started p) (started d.job) r r' i) is drove.counted

  pub stop_unseen : (x : Stuck) → d.outcome ≡ halted (Err x) → seen_in b v (name_of x) ≡ None
  stop_unseen x is = let stop = (gave_as (Err x) is).gave in rw (stop_name (sight_in b v stop.0) stop.0 x stop.2) stop.1

  pub stop_there : (x : Stuck) → d.outcome ≡ halted (Err x) → IsStopIn b x
  stop_there x is = at x ((gave_as (Err x) is).gave.0) ((gave_as (Err x) is).gave.2)
    where
      at : (y : Stuck) (k : List ℕ) → IsStuck (sight_in b v k) k y → IsStopIn b y
      at (NotDone j) k (same, how) = rw same (rule_undone (content b k) (done_in (v k)) how)
      at (Missing j) k (same, how) = rw same (none_missing (content b k) (done_in (v k)) how)

-- so each stop is in the book, where there was memory or not
pub stops_in : {J : Type 0} (name : J → List ℕ) (started : J → Bool) (gives : GivesOf J) (b : Book) (v : Spots J) (p : J) (d : Driven J) (r r' : Ledger) → Drove name started gives (sight_in b v) p d r r' → StopsIn b d.outcome
stops_in name started gives b v p d r r' drove = at d.outcome refl
  where
    at : (o : Result Made (Halt Stuck)) → d.outcome ≡ o → StopsIn b o
    at (Ok m) is = tt
    at (Err (Stop x)) is = stop_there name started gives b v p d r r' drove x is
    at (Err NoMemory) is = tt
