use Rattle.std.proofs.Common.{take}
use Rattle.carte_explain.specs.Nodes.{AddsAll, keys_in}
use Rattle.carte_explain.proofs.nodes.add_keys.Given as goal

abbrev pub invariant-loop-entry : goal.invariant-loop-entry
invariant-loop-entry l = AddsAll l.fn.nodes l.nodes (keys_in (take l.entry-index l.entries))
