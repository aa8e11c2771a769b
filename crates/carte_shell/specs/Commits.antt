-- The commits of a line: all pass, or one doesn't.
use Rattle.std.specs.Prelude.{◌≡◌, List, Result, Ok, Err}
use Rattle.carte_state.specs.Around.{OverDisk}
use Rattle.carte_record.specs.declared.batch.Batch.{Batch}
use Rattle.carte_session.specs.declared.end.StepEnd.{StepEnd}
use Rattle.carte_engine.specs.Committing.{CommitsAll as CommitsTo}
use Rattle.carte_state.specs.declared.fault.ApplyFault.{ApplyFault}
use Rattle.carte_shell.specs.Scenes.{Scene}
use Rattle.carte_shell.specs.Stopping.{fault_of}

-- the disk from the one scene to the other, of which a scene has the story and the faults alone
abbrev pub disk_between : Type 0 → Scene → Scene → OverDisk
disk_between tells m m' = record { tells = tells; old = m.story; new = m'.story; failed_before = m.faults; failed = m'.faults; same = Unit {0} }

-- the batches were put into what is kept, one after another, or not all of them, for this reason; nothing else has changed
pub record Commits (tells : Type 0) (m m' : Scene) (Bs : List Batch) (result : Result (Unit {0}) ApplyFault) : Type 0 where
  pub choices : m'.choices ≡ m.choices
  pub book : m'.book ≡ m.book
  pub commits : CommitsTo (disk_between tells m m') m.stand m'.stand Bs result

abbrev pub Puts : Type 0 → Scene → Scene → List Batch → Type 0
Puts tells m m' Bs = Commits tells m m' Bs (Ok tt)

-- why a line isn't answered that brings these batches
abbrev pub Stops : Type 0 → Scene → Scene → List Batch → StepEnd → Type 0
Stops tells m m' Bs end = Commits tells m m' Bs (Err (fault_of end))
