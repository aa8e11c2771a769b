use Rattle.std.proofs.Common.{◌≡◌, take}
use Rattle.carte_table.specs.Changes.{all_changed}
use Rattle.carte_table.specs.Lookups.{has_key}
use Rattle.carte_table.proofs.firsts.Firsts.mark_each.Given as goal

abbrev pub invariant-loop-key : goal.invariant-loop-key
invariant-loop-key g l = l.self ≡ all_changed (has_key g.T.Keyed.key_of) (g.T.Marked.marked l.is_marked) l.initial.self (take l.key-index l.key-items)
