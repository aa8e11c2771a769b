use Rattle.std.proofs.Common.{sym, subst}
use Rattle.carte_mark.proofs.Reaching.{none_twice}
use Rattle.carte_value.specs.Truths.{Among, IsListOf, NoneTwice}
use Rattle.carte_engine.specs.Sorted.{sorted}
use Rattle.carte_engine.proofs.Running.{ran_once}
use Rattle.carte_engine.proofs.Sorting.{rising_once, sorted_again, sorted_list}
use Rattle.carte_engine.proofs.reckon.each_once.Goals as goal

pub returns-then-has_each_once-clause-once : goal.returns-then-has_each_once-clause-once
returns-then-has_each_once-clause-once c =
    subst NoneTwice (sym c.requires) (ran_once c.args.finished.now (none_twice _ (c.has_each_once.ensures c.if-has_each_once.true)))

pub returns-then-has_each_once-clause-same : goal.returns-then-has_each_once-clause-same
returns-then-has_each_once-clause-same c = sorted_list c.args.keys.items

pub returns-clause-once : goal.returns-clause-once
returns-clause-once c = subst NoneTwice (sym c.in_order.ensures) (rising_once (sorted c.args.keys.items) (sorted_list c.args.keys.items).rising)

pub returns-clause-same : goal.returns-clause-same
returns-clause-same c =
    subst (λ ks. IsListOf (Among c.args.keys.items) (sorted ks)) (sym c.in_order.ensures) (subst (IsListOf (Among c.args.keys.items)) (sym (sorted_again c.args.keys.items)) (sorted_list c.args.keys.items))
