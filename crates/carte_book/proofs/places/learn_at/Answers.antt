use Rattle.std.proofs.Common.{◌≡◌, ◌∙◌, Some, slice_get, ap}
use Rattle.indexmap.specs.IndexMap.{values}
use Rattle.carte_book.specs.Task.{task_held}
use Rattle.carte_book.proofs.Placed.{fits_at, fits_set_at, view_set_at, tasks_seen}
use Rattle.carte_book.proofs.places.learn_at.Goals as goal

pub returns-in-Some-clause-fits : goal.returns-in-Some-clause-fits
returns-in-Some-clause-fits c q fits is =
    let found : slice_get (values c.args.items.now) c.args.at ≡ Some c.in-Some.item.now = cc (c.in-Some.ensures.value) in
    let learned = c.learn.ensures.fits q (fits_at q c.args.items.now.entries c.args.at c.in-Some.item.now fits found) (is ∙ ap (task_held q) found) in
    fits_set_at q c.args.items.now.entries c.args.at c.learn.new.self learned fits

pub returns-in-Some-clause-view : goal.returns-in-Some-clause-view
returns-in-Some-clause-view c =
    let found : slice_get (values c.args.items.now) c.args.at ≡ Some c.in-Some.item.now = cc (c.in-Some.ensures.value) in
    view_set_at c.args.items.now.entries c.args.at c.in-Some.item.now c.learn.new.self found c.learn.ensures.view

pub returns-in-Some-clause-tasks : goal.returns-in-Some-clause-tasks
returns-in-Some-clause-tasks c q place =
    let found : slice_get (values c.args.items.now) c.args.at ≡ Some c.in-Some.item.now = cc (c.in-Some.ensures.value) in
    tasks_seen q c.args.items.now.entries _ place (view_set_at c.args.items.now.entries c.args.at c.in-Some.item.now c.learn.new.self found c.learn.ensures.view)
