use Rattle.std.proofs.Common.{◌≡◌, ◌<◌, [], ◌∷◌, ◌++◌, length, take, subst, ap, sym, ◌∙◌, rules}
use Rattle.std.specs.HashMap.{get}
use Rattle.std.proofs.lemmas.List.{take_more}
use Rattle.carte_name.specs.Names.{name_eq}
use Rattle.carte_table.specs.Places.{IsFirstPlaces}
use Rattle.carte_table.proofs.FirstPlaces.{place_added}
use Rattle.carte_table.proofs.Names.{name_eq_sym}
use Rattle.carte_note.specs.Lists.{is_of_key}
use Rattle.carte_note.specs.Right.{key_of}
use Rattle.carte_note.proofs.list.places_of_all.Goals as goal

pub loop-at-preserved : goal.loop-at-preserved
loop-at-preserved c =
    let fs = c.args.finished.now in
    let at = c.loop-at.at in
    let one = c.index-finished-at.result in
    let below : at < length fs = search rules in
    let more = take_more fs at one below ∙ ap (λ t. take at fs ++ t ∷ []) (sym c.index-finished-at.is) in
    let end : at ≡ length (take at fs) = search rules in
    subst (λ xs. IsFirstPlaces is_of_key xs (get name_eq c.add.new.table)) (sym more)
    (place_added name_eq is_of_key (take at fs) one c.in_ok-key.key (get name_eq c.loop-at.places) (get name_eq c.add.new.table) at end
    (λ q. name_eq_sym q (key_of one) ∙ sym (ap (λ k. name_eq k q) (c.in_ok-key.ensures {u = tt} ∙ (c.key.ensures ∙ ap key_of (sym c.index-finished-at.is))))) c.loop-at.invariant ((c.in_ok-add.ensures {u = tt}).ok))
