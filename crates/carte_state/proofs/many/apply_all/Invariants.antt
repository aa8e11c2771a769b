use Rattle.std.proofs.Common.{◌≡◌, ◌+◌, false}
use Rattle.carte_record.specs.Folds.{applied}
use Rattle.carte_state.specs.Runs.{applied_to, calls_of_all, journal_behind}
use Rattle.carte_state.specs.States.{IsKeptOn, any_in, kept_in}
use Rattle.carte_state.proofs.Runs.{SoFar}
use Rattle.carte_state.proofs.many.apply_all.Given as goal

abbrev pub invariant-loop-batch : goal.invariant-loop-batch
invariant-loop-batch g l = record {
  whole : l.state.journal.broken ≡ false;
  place : l.state.journal ≡ journal_behind l.fn.state.journal l.yielded;
  kept : kept_in l.state ≡ applied (kept_in l.fn.state) l.yielded;
  any : any_in l.state ≡ applied_to (any_in l.fn.state) l.yielded;
  limit : l.state.journal.limit ≡ l.fn.state.journal.limit;
  same : g.D.Disk.faults l.disk ≡ g.D.Disk.faults l.fn.disk;
  made : g.D.Disk.tells
      → (g.D.Disk.story l.disk).now.passed ≡ (g.D.Disk.story l.fn.disk).now.passed + calls_of_all l.fn.state.journal l.yielded;
  so_far : g.D.Disk.tells → IsKeptOn l.fn.state (g.D.Disk.story l.fn.disk)
      → SoFar l.fn.state.journal.limit l.fn.state.journal (any_in l.fn.state) l.yielded l.state
      (g.D.Disk.story l.fn.disk) (g.D.Disk.story l.disk);
}
