use Rattle.std.proofs.Common.{take}
use Rattle.carte_explain.specs.Nodes.{AddsAll, names_in}
use Rattle.carte_explain.proofs.nodes.add_names.Given as goal

abbrev pub invariant-loop-link : goal.invariant-loop-link
invariant-loop-link l = AddsAll l.fn.nodes l.nodes (names_in (take l.link-index l.links))
