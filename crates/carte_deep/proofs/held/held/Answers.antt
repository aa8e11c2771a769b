use Rattle.std.proofs.Common.{◌<◌, ◌≤◌, ◌-◌, ap, sym, ◌∙◌, length, arith}
use Rattle.carte_book.specs.Book.{book_view}
use Rattle.carte_table.specs.Lookups.{first_value}
use Rattle.carte_deep.specs.Holding.{given_by}
use Rattle.carte_deep.proofs.Places.{finds_some, finds_none}
use Rattle.carte_deep.proofs.held.held.Goals as goal

pub returns-in-Some : goal.returns-in-Some
returns-in-Some c =
    let ns = c.places-places.result.now in
    let j = length ns - 1 - c.loop-newer.newer in
    let below : j < length ns = omega (arith, c.loop-newer-test.true) in
    finds_some c.args.kept.now (book_view c.args.book.now) c.args.key.now ns c.places-places.ensures j c.in-Some.earlier below
    (sym c.in-Some.is ∙ (c.in_ok-earlier.ensures {u = tt}) ∙ ap (given_by (first_value c.args.kept.now.values) (book_view c.args.book.now) c.args.key.now) c.get-trace.ensures)

pub returns : goal.returns
returns c =
    let ns = c.places-places.result.now in
    let all : length ns ≤ c.loop-newer.newer = omega (arith, c.loop-newer-test.false) in
    finds_none c.args.kept.now (book_view c.args.book.now) c.args.key.now ns c.places-places.ensures c.loop-newer.newer all c.loop-newer.invariant
