use Rattle.std.proofs.Common.{◌≡◌, ◌+◌, ◌≤◌, ◌++◌, ℕ, List, take}
use Rattle.carte_io.specs.Streams.{SinkState}
use Rattle.carte_session.specs.Carried.{Progress}
use Rattle.carte_session.specs.Staying.{AllAgain}
use Rattle.carte_session.proofs.lines.Lines.feed.Given as goal

abbrev pub invariant-loop-byte : goal.invariant-loop-byte
invariant-loop-byte g l = record {
  fed : (m : g.row.M.Denot × g.row.D.Denot) (k : SinkState) (read : List ℕ)
      → Progress g.M.Machine.answers m (l.fn.machine, l.fn.disk) (record { tells = g.O.Sink.tells; old = k; new = g.O.Sink.state l.fn.out })
      read l.fn.self.count l.fn.self.rest.items
      → Progress g.M.Machine.answers m (l.machine, l.disk) (record { tells = g.O.Sink.tells; old = k; new = g.O.Sink.state l.out })
      (read ++ take l.byte-index l.bytes) l.self.count l.self.rest.items;
  on : g.M.Machine.goes_on l.machine;
  few : l.self.count ≤ l.fn.self.count + l.byte-index;
  known : AllAgain g.M.Machine.answers (l.machine, l.disk) l.self.known.lines.items;
  same : (g.O.Sink.state l.out).faults ≡ (g.O.Sink.state l.fn.out).faults;
}
