-- One turn of a key whose job is given up where it stops.
use Rattle.std.specs.Prelude.{ℕ, ◌≡◌, Bool, false, List, Result, Ok, Err}
use Rattle.carte_effect.specs.declared.look.Stuck.{Stuck}
use Rattle.carte_effect.specs.declared.outcome.Made.{Made}
use Rattle.carte_effect.specs.Ledger.{Ledger}
use Rattle.carte_book.specs.Book.{Book}
use Rattle.carte_bench.specs.declared.slot.Slot.TheVariants.{Stopped}
use Rattle.carte_bench.specs.Spots.{Spots, PutAt, name_of}
use Rattle.carte_bench.specs.Steps.{GivesOf}
use Rattle.carte_bench.specs.Turns.{TurnedTo}

-- the job stopped, and a new one that wasn't driven stands in its place, which waits for the same name
pub record IsRenewed {J : Type 0} (name : J → List ℕ) (started : J → Bool) (gives : GivesOf J) (begins : List ℕ → J → Type 0) (b : Book) (old new : Spots J) (r r' : Ledger) (k : List ℕ) (x : Stuck) : Type 0 where
  pub mid : Spots J
  pub turned : TurnedTo name started gives b old mid r r' k (Err x)
  pub job : J
  pub begun : begins k job
  pub named : name job ≡ k
  pub idle : started job ≡ false
  pub put : PutAt mid new k (Stopped job (name_of x))

abbrev pub TurnedAnew : {J : Type 0} → (J → List ℕ) → (J → Bool) → GivesOf J → (List ℕ → J → Type 0) → Book → Spots J → Spots J → Ledger → Ledger → List ℕ → Result Made Stuck → Type 0
TurnedAnew name started gives begins b old new r r' k (Ok m) = TurnedTo name started gives b old new r r' k (Ok m)
TurnedAnew name started gives begins b old new r r' k (Err x) = IsRenewed name started gives begins b old new r r' k x
