-- A drive of one key over any part of what is done.
use Rattle.std.specs.Prelude.{ℕ, ◌≡◌, Bool, List, Some, Result}
use Rattle.carte_value.specs.Once.{Answers}
use Rattle.carte_value.specs.Truths.{Truth, Extends}
use Rattle.carte_effect.specs.declared.look.Stuck.{Stuck}
use Rattle.carte_effect.specs.declared.outcome.Made.{Made}
use Rattle.carte_effect.specs.Jobs.{Counted}
use Rattle.carte_effect.specs.Ledger.{Ledger}
use Rattle.carte_book.specs.Book.{Book}
use Rattle.carte_bench.specs.Spots.{Spots, PutAt, job_in, slot_after}
use Rattle.carte_bench.specs.Steps.{GivesOf, IsPartOf, step_of}
use Rattle.carte_bench.specs.Turns.{halted}

-- the key's job was driven over this truth, and stands again with what it came to; the ledger counts it
pub record DroveOver {J : Type 0} (name : J → List ℕ) (started : J → Bool) (gives : GivesOf J) (t : Truth) (old new : Spots J) (r r' : Ledger) (k : List ℕ) (o : Result Made Stuck) : Type 0 where
  pub before : J
  pub after : J
  pub further : Answers
  pub stood : job_in (old k) ≡ Some before
  pub gave : gives before t further (step_of o) after
  pub named : name after ≡ k
  pub put : PutAt old new k (slot_after after o)
  pub counted : Counted {S = Stuck} k (started before) (started after) r r' (halted o)

-- over the inputs and a part of what was done, which has all over which its job was driven before
pub record IsDriven {J : Type 0} (name : J → List ℕ) (started : J → Bool) (gives : GivesOf J) (begun : Truth → List ℕ → J → Type 0) (b : Book) (t : Truth) (old new : Spots J) (r r' : Ledger) (k : List ℕ) (o : Result Made Stuck) : Type 0 where
  pub drove : DroveOver name started gives t old new r r' k o
  pub over : IsPartOf b old t
  pub begins : (u : Truth) × Extends u t × begun u k drove.before
