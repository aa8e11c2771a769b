use Rattle.std.proofs.Common.{◌∙◌}
use Rattle.carte_search.proofs.Picking.{one_picked}
use Rattle.carte_search.proofs.search.Search.pick.Goals as goal

pub loop-name-preserved : goal.loop-name-preserved
loop-name-preserved c = record {
  picks = one_picked c.args.self.now.unvisited c.loop-name.self.unvisited c.pick_one.new.self.unvisited c.loop-name.next c.pick_one.new.next c.args.names.now c.loop-name.name-index c.name-item.result c.loop-name-test.true c.name-item.is c.loop-name.invariant.picks c.in_ok-pick_one.ensures.picks;
  met = c.in_ok-pick_one.ensures.met ∙ c.loop-name.invariant.met;
}
