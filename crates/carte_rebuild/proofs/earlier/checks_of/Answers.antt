use Rattle.std.proofs.Common.{option_copied, length, sym, ◌∙◌}
use Rattle.std.proofs.lemmas.Bool.{eqb-true}
use Rattle.carte_book.specs.Book.{book_view}
use Rattle.carte_book.specs.Task.{task_now}
use Rattle.carte_rebuild.proofs.Collecting.{none_now}
use Rattle.carte_rebuild.proofs.earlier.checks_of.Goals as goal

pub returns-then-is_empty : goal.returns-then-is_empty
returns-then-is_empty c =
    let places = c.places-places.result.now in
    let empty = eqb-true (length places) 0 (sym c.is_empty.ensures ∙ c.if-is_empty.true) in
    c.new.ensures ∙ none_now (task_now (book_view c.args.book.now) c.args.key.now) (option_copied c.args.wanted) c.args.values.now c.args.key.now c.args.traces.now places empty c.places-places.ensures
