-- One turn of a key: its job is taken, driven over what the bench shows, and put back.
use Rattle.std.specs.Prelude.{ℕ, ◌≡◌, Bool, List, Option, Some, None, Result, Ok, Err}
use Rattle.carte_effect.specs.declared.effect.Halt.{Halt}
use Rattle.carte_effect.specs.declared.effect.Halt.TheVariants.{Stop}
use Rattle.carte_effect.specs.declared.look.Stuck.{Stuck}
use Rattle.carte_effect.specs.declared.outcome.Made.{Made}
use Rattle.carte_effect.specs.Jobs.{Gave, Counted}
use Rattle.carte_effect.specs.Ledger.{Ledger}
use Rattle.carte_effect.specs.Sights.{IsStuck}
use Rattle.carte_book.specs.Book.{Book}
use Rattle.carte_bench.specs.declared.slot.Slot.TheVariants.{Out}
use Rattle.carte_bench.specs.Spots.{Spots, PutAt, job_in, slot_after, sight_in, seen_in}
use Rattle.carte_bench.specs.Steps.{GivesOf}

-- the stops that a bench gives for a name
abbrev pub stops_in : {J : Type 0} → Book → Spots J → List ℕ → Stuck → Type 0
stops_in b s k x = IsStuck (sight_in b s k) k x

abbrev pub halted : Result Made Stuck → Result Made (Halt Stuck)
halted (Ok m) = Ok m
halted (Err x) = Err (Stop x)

-- the key's job was out while it was driven over what the bench showed then, and stands there again with what it came to; the ledger counts it
pub record TurnedTo {J : Type 0} (name : J → List ℕ) (started : J → Bool) (gives : GivesOf J) (b : Book) (old new : Spots J) (r r' : Ledger) (k : List ℕ) (o : Result Made Stuck) : Type 0 where
  pub before : J
  pub after : J
  pub mid : Spots J
  pub stood : job_in (old k) ≡ Some before
  pub out : PutAt old mid k Out
  pub gave : Gave gives (seen_in b mid) (stops_in b mid) None None before after (halted o)
  pub named : name after ≡ k
  pub put : PutAt mid new k (slot_after after o)
  pub counted : Counted {S = Stuck} k (started before) (started after) r r' (halted o)

-- it made this, or it stopped
abbrev pub Turned : {J : Type 0} → (J → List ℕ) → (J → Bool) → GivesOf J → Book → Spots J → Spots J → Ledger → Ledger → List ℕ → Option Made → Type 0
Turned name started gives b old new r r' k (Some m) = TurnedTo name started gives b old new r r' k (Ok m)
Turned name started gives b old new r r' k None = (x : Stuck) × TurnedTo name started gives b old new r r' k (Err x)
