use Rattle.std.proofs.Common.{inl, sym}
use Rattle.carte_search.proofs.Picking.{moves}
use Rattle.carte_search.proofs.search.Search.pick_one.Goals as goal

pub returns-in_ok-insert-in-Some-clause-picks : goal.returns-in_ok-insert-in-Some-clause-picks
returns-in_ok-insert-in-Some-clause-picks c =
    inl (moves c.args.self.now.unvisited c.take.new.self c.args.next.now c.insert.new.self c.args.name.now c.in-Some.name c.in_ok-insert-in-Some.field-0 c.in-Some.ensures.same_key (sym c.in-Some.ensures.variant) c.in-Some.ensures.updates.0 c.in_ok-insert-in-Some.ensures.updates.0 c.in-Some.ensures.len c.in_ok-insert-in-Some.ensures.len)
