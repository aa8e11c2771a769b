use Rattle.std.proofs.Common.{length, refl, ◌∙◌, arith}
use Rattle.std.proofs.lemmas.Option.{slice_get_read}
use Rattle.carte_search.specs.Search.{Graph}
use Rattle.carte_search.proofs.Loops.{starts, goes_on, found_first, none_left}
use Rattle.carte_search.proofs.first.first_path.Goals as goal

pub names-init : goal.names-init
names-init g c =
    let G : Graph = record { nexts = g.G.Graph.nexts c.args.graph.now; is_goal = g.G.Graph.is_goal c.args.graph.now; starts = c.args.starts.now; nodes = c.args.nodes } in
    starts G c.over-search.result.unvisited c.meet.new.self.unvisited c.over-search.result.met.items c.meet.new.self.met.items c.over-search.ensures.unvisited c.over-search.ensures.met c.in_ok-meet.ensures

pub returns-in-None : goal.returns-in-None
returns-in-None g c =
    let G : Graph = record { nexts = g.G.Graph.nexts c.args.graph.now; is_goal = g.G.Graph.is_goal c.args.graph.now; starts = c.args.starts.now; nodes = c.args.nodes } in
    let here = slice_get_read c.names.search.met.items (length c.names.search.met.items) c.names.at c.index.result.now refl (omega arith) c.index.ensures in
    let goal_is = rw c.in-None.is at c.in_ok-names.ensures in
    found_first G c.names.search.unvisited c.names.search.met.items c.names.at c.index.result.now c.names.invariant here c.requires c.in_ok-path-in-None.field-0 goal_is c.in_ok-path-in-None.ensures

pub names-preserved : goal.names-preserved
names-preserved g c =
    let G : Graph = record { nexts = g.G.Graph.nexts c.args.graph.now; is_goal = g.G.Graph.is_goal c.args.graph.now; starts = c.args.starts.now; nodes = c.args.nodes } in
    let here = slice_get_read c.names.search.met.items (length c.names.search.met.items) c.names.at c.index.result.now refl (omega arith) c.index.ensures in
    let open_on = rw c.in-Some.is at c.in_ok-names.ensures in
    goes_on G c.names.search.unvisited c.names.search.met.items c.names.at c.index.result.now c.names.invariant here c.meet-in-Some.new.self.unvisited c.meet-in-Some.new.self.met.items c.as_slice.result.now open_on.0 (c.as_slice.ensures ∙ open_on.1) c.in_ok-meet-in-Some.ensures

pub returns : goal.returns
returns g c =
    let G : Graph = record { nexts = g.G.Graph.nexts c.args.graph.now; is_goal = g.G.Graph.is_goal c.args.graph.now; starts = c.args.starts.now; nodes = c.args.nodes } in
    none_left G c.requires c.names.search.unvisited c.names.search.met.items c.names.at c.names.invariant (omega arith)
