use Rattle.std.proofs.Common.{◌≡◌, ◌<◌, [], ◌∷◌, ◌++◌, length, take, subst, ap, sym, ◌∙◌, rules}
use Rattle.std.specs.HashMap.{get}
use Rattle.std.proofs.lemmas.List.{take_more}
use Rattle.carte_name.specs.Names.{name_eq}
use Rattle.carte_table.specs.Lookups.{has_key}
use Rattle.carte_table.specs.Places.{IsFirstPlaces}
use Rattle.carte_table.proofs.Names.{name_eq_sym}
use Rattle.carte_table.proofs.FirstPlaces.{place_added}
use Rattle.carte_table.proofs.firsts.places_of_all.Goals as goal

pub loop-at-preserved : goal.loop-at-preserved
loop-at-preserved g c =
    let key = g.T.Keyed.key_of in
    let items = c.args.items.now in
    let at = c.loop-at.at in
    let item = c.index-items-at.result in
    let below : at < length items = search rules in
    let more = take_more items at item below ∙ ap (λ t. take at items ++ t ∷ []) (sym c.index-items-at.is) in
    let end : at ≡ length (take at items) = search rules in
    subst (λ xs. IsFirstPlaces (has_key key) xs (get name_eq c.add.new.table)) (sym more)
    (place_added name_eq (has_key key) (take at items) item c.in_ok-key.key (get name_eq c.loop-at.table) (get name_eq c.add.new.table) at end
    (λ q. name_eq_sym q (key item) ∙ sym (ap (λ k. name_eq k q) (c.in_ok-key.ensures {u = tt} ∙ c.key.ensures))) c.loop-at.invariant ((c.in_ok-add.ensures {u = tt}).ok))
