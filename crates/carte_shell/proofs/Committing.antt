-- The commits of a line from scene to scene.
use Rattle.std.proofs.Common.{◌≡◌, List, true, inr}
use Rattle.std.specs.List.{list_all}
use Rattle.carte_record.specs.Empty.{is_empty}
use Rattle.carte_record.specs.declared.batch.Batch.{Batch}
use Rattle.carte_session.specs.declared.end.StepEnd.{StepEnd}
use Rattle.carte_words.specs.declared.line.Line.{Line}
use Rattle.carte_shell.specs.Answers.{Breaks, Brings}
use Rattle.carte_engine.proofs.Idle.{puts_idle}
use Rattle.carte_shell.specs.Commits.{Puts, Stops, disk_between}
use Rattle.carte_shell.specs.Scenes.{Scene}
use Rattle.carte_shell.proofs.Obeying.{same_scene}

-- why a line isn't answered that brings the batches
pub breaks : (tells : Type 0) (m m' : Scene) (l : Line) (Bs : List Batch) (end : StepEnd) → Brings m l Bs → Stops tells m m' Bs end → Breaks tells m l end m'
breaks tells m m' l Bs end brings stops = inr (Bs, brings, stops)

-- batches that bring nothing leave all as it was
pub puts_nothing : (tells : Type 0) (m m' : Scene) (Bs : List Batch) → list_all is_empty Bs ≡ true → Puts tells m m' Bs → m' ≡ m
puts_nothing tells m m' Bs none puts =
    let idle = puts_idle true (disk_between tells m m') m.stand Bs m'.stand none puts.commits in
    same_scene m m' puts.choices puts.book idle.0 idle.1 idle.2
