use Rattle.std.proofs.Common.{◌≡◌, ◌<◌, [], ◌∷◌, ◌++◌, length, take, map, subst, ap, sym, ◌∙◌, rules}
use Rattle.std.specs.HashMap.{get}
use Rattle.std.proofs.lemmas.List.{take_more}
use Rattle.carte_name.specs.Names.{name_eq}
use Rattle.carte_value.specs.Spelling.{digest_of}
use Rattle.carte_table.specs.Lookups.{is_value_of}
use Rattle.carte_table.specs.Places.{IsFirstPlaces}
use Rattle.carte_table.proofs.Names.{name_eq_sym}
use Rattle.carte_table.proofs.FirstPlaces.{place_added, map_end}
use Rattle.carte_table.proofs.store.digests_of_all.Goals as goal

pub loop-at-preserved : goal.loop-at-preserved
loop-at-preserved c =
    let values = c.args.values.now in
    let at = c.loop-at.at in
    let value = c.index-values-at.result in
    let below : at < length values = search rules in
    let more = take_more values at value below ∙ ap (λ t. take at values ++ t ∷ []) (sym c.index-values-at.is) in
    let end : at ≡ length (take at values) = search rules in
    let digest = c.digest-digest.ensures in (
      (c.in_ok-push.ensures {u = tt}).items ∙ ap (λ ds. ds ++ c.digest-digest.result ∷ []) c.loop-at.invariant.0 ∙ ap (λ d. map digest_of (take at values) ++ d ∷ []) digest
          ∙ sym (map_end digest_of (take at values) value) ∙ ap (map digest_of) (sym more),
      subst (λ xs. IsFirstPlaces (λ d. is_value_of (record { 0 = d })) xs (get name_eq c.add.new.table)) (sym more)
          (place_added name_eq (λ d. is_value_of (record { 0 = d })) (take at values) value c.of-key.result (get name_eq c.loop-at.table) (get name_eq c.add.new.table) at end
          (λ q. name_eq_sym q (digest_of value).0 ∙ sym (ap (λ d. name_eq d.0 q) digest) ∙ sym (ap (λ k. name_eq k q) c.of-key.ensures)) c.loop-at.invariant.1 ((c.in_ok-add.ensures {u = tt}).ok)),
    )
