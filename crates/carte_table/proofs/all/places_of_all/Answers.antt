use Rattle.std.proofs.Common.{◌≡◌, ◌<◌, ◌≤◌, false, [], ◌∷◌, ◌++◌, length, take, subst, ap, sym, ◌∙◌, rules, ℕ, List}
use Rattle.std.specs.HashMap.{get}
use Rattle.std.specs.List.{list_any}
use Rattle.std.proofs.lemmas.List.{take_more}
use Rattle.carte_name.specs.Names.{name_eq}
use Rattle.carte_table.specs.Latest.{latest_length}
use Rattle.carte_table.specs.Lookups.{has_key}
use Rattle.carte_table.specs.Places.{ArePlaces}
use Rattle.carte_table.specs.KeyPlaces.{places_in}
use Rattle.carte_table.proofs.Names.{name_eq_sym}
use Rattle.carte_table.proofs.AllPlaces.{places_added}
use Rattle.carte_table.proofs.all.places_of_all.Goals as goal

pub loop-at-preserved : goal.loop-at-preserved
loop-at-preserved g c =
    let key = g.T.Keyed.key_of in
    let alike = g.T.Compared.alike in
    let items = c.args.items.now in
    let at = c.loop-at.at in
    let item = c.index-items-at.result in
    let old : List ℕ → List ℕ = λ q. places_in (get name_eq c.loop-at.table q) in
    let new : List ℕ → List ℕ = λ q. places_in (get name_eq c.add.new.table q) in
    let below : at < length items = search rules in
    let more = take_more items at item below ∙ ap (λ t. take at items ++ t ∷ []) (sym c.index-items-at.is) in
    let front : c.split_at.result.0.now ≡ take at items = c.split_at.ensures.front in
    let made = c.in_ok-is_new.ensures {u = tt} in (
      subst (λ xs. ArePlaces (has_key key) xs new) (sym more)
          (places_added name_eq (has_key key) (take at items) item c.in_ok-key.key old new (length c.split_at.result.0.now) (ap length front)
          (λ q. name_eq_sym q (key item) ∙ sym (ap (λ k. name_eq k q) (c.in_ok-key.ensures {u = tt} ∙ c.key.ensures))) c.loop-at.invariant.0 made.ok),
      subst (λ xs. c.with_last-least.result ≤ latest_length alike g.T.Measured.spelled xs) (sym more)
          (c.with_last-least.ensures (take at items)
          (λ is. subst (λ xs. list_any (alike item) xs ≡ false) front (made.is_new is (subst (λ xs. ArePlaces (has_key key) xs old) (sym front) c.loop-at.invariant.0)))
          c.loop-at.invariant.1),
    )
