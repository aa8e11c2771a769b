use Rattle.std.proofs.Common.{◌≡◌, ◌+◌, List, false, take}
use Rattle.carte_journal.specs.Frames.{BodyAt}
use Rattle.carte_journal.specs.Journals.{IsAtRest}
use Rattle.carte_journal.specs.Runs.{calls_for, committed_all}
use Rattle.carte_journal.proofs.ManyCommits.{SoFar}
use Rattle.carte_journal.proofs.many.commit_all.Given as goal

abbrev pub invariant-loop-frame : goal.invariant-loop-frame
invariant-loop-frame g l = record {
  whole : l.journal.broken ≡ false;
  place : l.journal ≡ committed_all l.fn.journal (take l.frame-index l.frames);
  same : g.D.Disk.faults l.disk ≡ g.D.Disk.faults l.fn.disk;
  made : g.D.Disk.tells → (g.D.Disk.story l.disk).now.passed ≡ (g.D.Disk.story l.fn.disk).now.passed + calls_for l.fn.journal (take l.frame-index l.frames);
  so_far : g.D.Disk.tells → (bodies : List BodyAt) → IsAtRest l.fn.journal bodies (g.D.Disk.story l.fn.disk)
      → SoFar l.fn.journal bodies (take l.frame-index l.frames) l.journal (g.D.Disk.story l.fn.disk) (g.D.Disk.story l.disk);
}
