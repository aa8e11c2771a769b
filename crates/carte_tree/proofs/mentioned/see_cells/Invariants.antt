use Rattle.std.proofs.Common.{◌≡◌, take}
use Rattle.carte_value.specs.Firsts.{seen_all}
use Rattle.carte_tree.proofs.mentioned.see_cells.Given as goal

abbrev pub invariant-loop-name : goal.invariant-loop-name
invariant-loop-name l = l.seen ≡ seen_all l.fn.seen (take l.name-index l.name-items)
