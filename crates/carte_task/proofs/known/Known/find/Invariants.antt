use Rattle.std.proofs.Common.{◌≡◌, ◌++◌, drop}
use Rattle.carte_value.specs.Once.{answer_in}
use Rattle.carte_task.proofs.known.Known.find.Given as goal

abbrev pub invariant-loop-own : goal.invariant-loop-own
invariant-loop-own l = answer_in l.self.entries l.name ≡ answer_in (drop l.own-index l.own-items ++ l.self-inside.more.entries) l.name
