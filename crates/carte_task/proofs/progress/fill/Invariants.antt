use Rattle.std.proofs.Common.{◌≡◌, ◌++◌, drop}
use Rattle.carte_effect.specs.Effects.{paired}
use Rattle.carte_task.proofs.progress.fill.Given as goal

abbrev pub invariant-loop-name : goal.invariant-loop-name
invariant-loop-name l = l.answers.entries ++ paired (drop l.name-index l.name-items) l.rest ≡ paired l.names l.fn.values
