use Rattle.std.proofs.Common.{◌≡◌, take}
use Rattle.std.specs.Prelude.{filter}
use Rattle.carte_table.specs.Changes.{is_of_none}
use Rattle.carte_table.proofs.firsts.Firsts.without.Given as goal

abbrev pub invariant-loop-item : goal.invariant-loop-item
invariant-loop-item g l = l.left ≡ filter (is_of_none g.T.Keyed.key_of l.gone) (take l.item-index l.self)
