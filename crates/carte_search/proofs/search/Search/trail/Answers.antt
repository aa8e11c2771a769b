use Rattle.carte_search.proofs.Loops.{step_back, all_back}
use Rattle.carte_search.proofs.search.Search.trail.Goals as goal

pub back-preserved : goal.back-preserved
back-preserved c =
    let next = step_back c.args.self.now.met.items c.back.next c.in-Some.at c.index-met.result.now c.in_ok-copy.field-0 c.back.names.items c.push.new.self.items _ c.requires.links c.in-Some.is c.index-met.ensures c.in_ok-copy.ensures c.in_ok-push.ensures.items c.back.invariant.within c.back.invariant.names in
    record { within = next.0; names = next.1 }

pub returns : goal.returns
returns c = all_back c.args.self.now.met.items c.back.next c.back.names.items _ c.in_default.is c.back.invariant.names
