use Rattle.std.proofs.Common.{sym, ◌∙◌}
use Rattle.carte_table.proofs.FirstPlaces.{place_finds, place_misses}
use Rattle.carte_table.proofs.table.first.Goals as goal

pub returns-in-Some : goal.returns-in-Some
returns-in-Some g c is_of is = c.item_at.ensures ∙ place_finds (is_of c.args.key.now) c.args.items.now _ (sym (is c.args.key.now) ∙ (sym c.place.ensures ∙ c.in-Some.is))

pub returns-in-None : goal.returns-in-None
returns-in-None g c is_of is = sym (place_misses (is_of c.args.key.now) c.args.items.now (sym (is c.args.key.now) ∙ (sym c.place.ensures ∙ c.in-None.is)))
