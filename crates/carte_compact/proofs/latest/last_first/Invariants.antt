use Rattle.std.proofs.Common.{◌≡◌, ◌≤◌, map, drop, reverse, length}
use Rattle.std.specs.HashSet.{contains}
use Rattle.std.specs.List.{list_any}
use Rattle.carte_table.specs.Latest.{last_ones}
use Rattle.carte_compact.specs.declared.content.Content.{Content}
use Rattle.carte_compact.proofs.latest.last_first.Given as goal

abbrev pub invariant-loop-left : goal.invariant-loop-left
invariant-loop-left g l = record {
  within : l.left ≤ length l.traces;
  list : map (λ t. t.now) l.list.items ≡ reverse (last_ones g.T.Compared.alike (drop l.left l.traces));
  later : (q : Content g.row.T.Denot) → contains (λ s t. g.T.Compared.alike s.trace.now t.trace.now) l.later q ≡ list_any (g.T.Compared.alike q.trace.now) (drop l.left l.traces);
}

abbrev pub decreases-loop-left : goal.decreases-loop-left
decreases-loop-left g l = l.left
