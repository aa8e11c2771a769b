-- All that a run has done: the theorem of the program.
use Rattle.std.specs.Prelude.{ℕ, ◌≡◌, ◌≤◌, ◌⊎◌, length}
use Rattle.carte_io.specs.Streams.{Reads}
use Rattle.carte_report.specs.declared.status.Status.{Status}
use Rattle.carte_top.specs.Around.{Around}
use Rattle.carte_top.specs.Due.{IsDue, IsFull, IsFullDue, IsHindered}
use Rattle.carte_top.specs.Outcome.{Ran, Ended, TellsSources, TellsDisk, TellsSink}
use Rattle.carte_top.specs.Sound.{Visits, IsSoundRun}

-- the status has its cause, and each fault its status; whatever crash comes, the state stays sound; the error line was written; and the status that is due
-- has come, but for want of memory and devices; where there is room for the batches of no right plan, that is told with the bytes of the build's own
pub record IsOutcome (limit : ℕ) (a : Around) (status : Status) : Type 0 where
  pub ran : Ran limit a.words a.book a.script a.state a.out status
  pub read : Reads (λ bytes. length bytes ≤ 16777217) a.book.tells a.book.old.left a.book.new.left
  pub visits : Visits limit a.words a.book a.script a.state
  pub sound : IsSoundRun limit a.words a.book a.script a.state
  pub source : TellsSources a.words a.book a.script status
  pub disk : TellsDisk a.state status
  pub sink : TellsSink a.out status
  pub ended : Ended a.err status
  pub complete : (due : Status) → IsDue limit a.words a.book a.script a.state due → (status ≡ due) ⊎ IsHindered status
  pub full : IsFullDue limit a.words a.book a.state → IsFull status ⊎ IsHindered status
