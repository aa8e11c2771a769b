use Rattle.std.proofs.Common.{◌≡◌, length, Some, None, sym, ◌∙◌, ap}
use Rattle.std.specs.List.{flat_map}
use Rattle.std.specs.Prelude.{option_copied, slice_get}
use Rattle.carte_table.specs.Changes.{change_first}
use Rattle.carte_table.proofs.Changed.{change_none}
use Rattle.carte_table.proofs.FirstPlaces.{place_below}
use Rattle.carte_table.proofs.Lengths.{changed_long, one_there}
use Rattle.carte_table.proofs.table.length_with.Goals as goal

pub returns-in-Some-item_at : goal.returns-in-Some-item_at
returns-in-Some-item_at g c p is known =
    let there : slice_get c.args.items.now c.in-Some.at ≡ Some c.in-Some-item_at.old.now = sym c.item_at.ensures ∙ ap option_copied c.in-Some-item_at.is in
    c.exchanged.ensures (length (flat_map g.T.Measured.spelled c.args.items.now)) (length (flat_map g.T.Measured.spelled (change_first p (λ x. c.args.item.now) c.args.items.now)))
    (changed_long g.T.Measured.spelled p c.args.item.now c.args.items.now c.in-Some.at c.in-Some-item_at.old.now (sym is ∙ c.in-Some.is) there) known

pub returns-in_default-item_at : goal.returns-in_default-item_at
returns-in_default-item_at g c p is known =
    let none : slice_get c.args.items.now c.in-Some.at ≡ None = sym c.item_at.ensures ∙ ap option_copied c.in_default-item_at.is in
    absurd (one_there c.args.items.now c.in-Some.at (place_below p c.args.items.now c.in-Some.at (sym is ∙ c.in-Some.is)) none)

pub returns-in_default : goal.returns-in_default
returns-in_default g c p is known = rw (change_none p (λ x. c.args.item.now) c.args.items.now (sym is ∙ c.in_default.is)) known
