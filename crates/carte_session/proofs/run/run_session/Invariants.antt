use Rattle.std.proofs.Common.{◌≡◌, ◌-◌, ◌≤◌, ◌++◌, ℕ, List, length}
use Rattle.carte_session.specs.Carried.{Progress}
use Rattle.carte_session.specs.Staying.{AllAgain}
use Rattle.carte_session.proofs.run.run_session.Given as goal

abbrev pub invariant-loop-taken : goal.invariant-loop-taken
invariant-loop-taken g l = record {
  so : (read : List ℕ) × (length read ≡ l.taken)
      × (g.S.Source.tells → (g.S.Source.state l.fn.script).left ≡ read ++ (g.S.Source.state l.script).left)
      × Progress g.M.Machine.answers (l.fn.machine, l.fn.disk) (l.machine, l.disk)
      (record { tells = g.O.Sink.tells; old = g.O.Sink.state l.fn.out; new = g.O.Sink.state l.out }) read l.lines.count l.lines.rest.items;
  on : g.M.Machine.goes_on l.machine;
  known : AllAgain g.M.Machine.answers (l.machine, l.disk) l.lines.known.lines.items;
  long : length l.piece ≡ 8192;
  within : l.taken ≤ l.limit;
  few : l.lines.count ≤ l.taken;
  read_same : (g.S.Source.state l.script).faults ≡ (g.S.Source.state l.fn.script).faults;
  sink_same : (g.O.Sink.state l.out).faults ≡ (g.O.Sink.state l.fn.out).faults;
}

abbrev pub decreases-loop-taken : goal.decreases-loop-taken
decreases-loop-taken g l = l.limit - l.taken
