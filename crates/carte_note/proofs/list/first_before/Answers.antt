use Rattle.std.proofs.Common.{sym, ◌∙◌}
use Rattle.carte_table.proofs.FirstPlaces.{place_misses}
use Rattle.carte_note.specs.Lists.{is_of_key}
use Rattle.carte_note.proofs.Before.{finds_before, misses_before}
use Rattle.carte_note.proofs.list.first_before.Goals as goal

pub returns-in-Some : goal.returns-in-Some
returns-in-Some c are =
    c.item_before.ensures
    ∙ finds_before (is_of_key c.args.key.now) c.args.finished.now c.args.count _ (sym (are c.args.key.now) ∙ (sym c.place.ensures ∙ c.in-Some.is))

pub returns-in-None : goal.returns-in-None
returns-in-None c are = sym (misses_before (is_of_key c.args.key.now) c.args.finished.now c.args.count (place_misses (is_of_key c.args.key.now) c.args.finished.now (sym (are c.args.key.now) ∙ (sym c.place.ensures ∙ c.in-None.is))))
