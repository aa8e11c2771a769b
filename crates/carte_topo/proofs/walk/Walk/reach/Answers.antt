use Rattle.std.proofs.Common.{ap, sym, ◌∙◌, []}
use Rattle.std.proofs.lemmas.Result.{err_from_is_err_and}
use Rattle.carte_book.specs.Book.{book_view}
use Rattle.carte_topo.specs.Walk.{seen_in, is_ready}
use Rattle.carte_topo.proofs.Marking.{tells}
use Rattle.carte_topo.proofs.Ordered.{none_left, turned_all}
use Rattle.carte_topo.proofs.Reaching.{has_goal, same_goal, ready_already, first_refused, first_turning, newest_stands, newest_tells, later_refused, later_turning, later_smaller}
use Rattle.carte_topo.proofs.walk.Walk.reach.Goals as goal

pub is_ready-requires : goal.is_ready-requires
is_ready-requires c = tells (book_view c.args.book.now) c.args.targets.now [] (seen_in c.args.self.now.stages) [] c.args.self.now.done (c.requires.between.walk [])

pub returns-then-is_ready : goal.returns-then-is_ready
returns-then-is_ready c = λ k at.
    let same = same_goal c.args.targets.now c.args.at k _ c.requires.within c.index-targets-at.is at in
    ready_already (book_view c.args.book.now) c.args.targets.now k c.index-targets-at.result (seen_in c.args.self.now.stages) c.args.self.now.path.items c.args.self.now.done c.is_ready.result c.requires.between same c.is_ready.ensures c.if-is_ready.true

pub returns-in_err-enter : goal.returns-in_err-enter
returns-in_err-enter c = λ k at.
    let same = same_goal c.args.targets.now c.args.at k _ c.requires.within c.index-targets-at.is at in
    let p = err_from_is_err_and c.from_residual-in_err-enter.result c.from_residual-in_err-enter.ensures.1 in
    rw (p.1, p.2) (first_refused (book_view c.args.book.now) c.args.targets.now k c.in_ok-copy.field-0 c.args.at (seen_in c.args.self.now.stages) (seen_in c.enter.new.self.stages) c.args.self.now.path.items c.enter.new.self.path.items c.args.self.now.done c.enter.new.self.done c.in_err-enter.field-0.0 at c.requires.between (c.in_ok-copy.ensures ∙ same) (ap (is_ready (book_view c.args.book.now) c.args.self.now.done) c.in_ok-copy.ensures ∙ sym c.is_ready.ensures ∙ c.if-is_ready.false) c.in_err-enter.ensures.enters)

pub turns-init : goal.turns-init
turns-init c = λ k at.
    let same = same_goal c.args.targets.now c.args.at k _ c.requires.within c.index-targets-at.is at in
    first_turning (book_view c.args.book.now) c.args.targets.now k c.in_ok-copy.field-0 c.args.at (seen_in c.args.self.now.stages) (seen_in c.enter.new.self.stages) c.args.self.now.path.items c.enter.new.self.path.items c.args.self.now.done c.enter.new.self.done at c.requires.between (c.in_ok-copy.ensures ∙ same) c.in_ok-enter.ensures.enters c.in_ok-enter.ensures.done

pub turn-requires : goal.turn-requires
turn-requires c =
    let some = has_goal c.args.targets.now c.args.at c.requires.within in
    record {
      tells = newest_tells (book_view c.args.book.now) c.args.targets.now some.0 (seen_in c.turns.self.stages) c.turns.self.path.items c.args.self.now.done c.turns.self.done (c.turns.invariant some.0 some.1);
      stands = newest_stands (book_view c.args.book.now) c.args.targets.now some.0 (seen_in c.turns.self.stages) c.turns.self.path.items c.pop_front.new.self.items c.args.self.now.done c.turns.self.done c.in-Some.frame c.in-Some.ensures.items (c.turns.invariant some.0 some.1);
    }

pub turns-smaller : goal.turns-smaller
turns-smaller c =
    let some = has_goal c.args.targets.now c.args.at c.requires.within in
    later_smaller (book_view c.args.book.now) c.args.targets.now some.0 (seen_in c.turns.self.stages) (seen_in c.turn.new.self.stages) c.turns.self.path.items c.pop_front.new.self.items c.turn.new.self.path.items c.args.self.now.done c.turns.self.done c.turn.new.self.done c.in-Some.frame c.in-Some.ensures.items (c.turns.invariant some.0 some.1) c.in_ok-turn.ensures

pub returns-in_err-turn : goal.returns-in_err-turn
returns-in_err-turn c = λ k at.
    let p = err_from_is_err_and c.from_residual-in_err-turn.result c.from_residual-in_err-turn.ensures.1 in
    rw (p.1, p.2) (later_refused (book_view c.args.book.now) c.args.targets.now k c.args.at (seen_in c.turns.self.stages) (seen_in c.turn.new.self.stages) c.turns.self.path.items c.pop_front.new.self.items c.turn.new.self.path.items c.args.self.now.done c.turns.self.done c.turn.new.self.done c.in-Some.frame c.in_err-turn.field-0.0 at c.in-Some.ensures.items (c.turns.invariant k at) c.in_err-turn.ensures)

pub turns-preserved : goal.turns-preserved
turns-preserved c = λ k at.
    later_turning (book_view c.args.book.now) c.args.targets.now k (seen_in c.turns.self.stages) (seen_in c.turn.new.self.stages) c.turns.self.path.items c.pop_front.new.self.items c.turn.new.self.path.items c.args.self.now.done c.turns.self.done c.turn.new.self.done c.in-Some.frame c.in-Some.ensures.items (c.turns.invariant k at) c.in_ok-turn.ensures

pub returns : goal.returns
returns c = λ k at.
    let none = none_left c.turns.self.path.items c.turns.self.path.len c.turns.self.path.ok.0 c.in_default.ensures.cases.0 in
    turned_all (book_view c.args.book.now) c.args.targets.now k (seen_in c.turns.self.stages) c.turns.self.path.items c.pop_front.new.self.items c.args.self.now.done c.turns.self.done none (sym c.in_default.ensures.items ∙ none) (c.turns.invariant k at)
