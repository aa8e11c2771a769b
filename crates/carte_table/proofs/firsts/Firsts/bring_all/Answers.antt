use Rattle.carte_table.proofs.Steps.{none_ready, more_ready, brought_begins, begins_on, begins_self}
use Rattle.carte_table.proofs.firsts.Firsts.bring_all.Goals as goal

pub loop-item-init : goal.loop-item-init
loop-item-init g c = (rw c.new-left.ensures.items (none_ready g.T.Keyed.key_of c.widen.new.self), begins_self c.widen.new.self)

pub loop-item-preserved : goal.loop-item-preserved
loop-item-preserved g c =
    let key = g.T.Keyed.key_of in
    let put = (c.in_ok-bring.ensures {u = tt}).ok in (
      more_ready key c.loop-item.yielded c.widen.new.self c.loop-item.left.items c.loop-item.self c.bring.new.left.items c.bring.new.self c.in-Some.item c.loop-item.invariant.0 put,
      begins_on c.widen.new.self c.loop-item.self c.bring.new.self c.loop-item.invariant.1 (brought_begins key c.in-Some.item c.loop-item.self c.loop-item.left.items c.bring.new.self c.bring.new.left.items put),
    )
