use Rattle.std.proofs.Common.{◌+◌, ◌<◌, [], ◌∷◌, ◌++◌, List, ℕ, length, take, Some, ap, sym, ◌∙◌, subst, rules}
use Rattle.std.proofs.lemmas.List.{take_more}
use Rattle.std.proofs.lemmas.Option.{slice_get-get_or}
use Rattle.carte_value.specs.Truths.{Among}
use Rattle.carte_book.specs.Book.{book_view}
use Rattle.carte_mark.proofs.Putting.{get_among}
use Rattle.carte_table.proofs.Fronts.{take_whole}
use Rattle.carte_engine.specs.Answers.{AreValues}
use Rattle.carte_engine.specs.Reckoned.{value_found}
use Rattle.carte_engine.proofs.Valued.{one_valued}
use Rattle.carte_engine.proofs.reckon.values.Goals as goal

pub value-requires : goal.value-requires
value-requires c =
    let names = c.as_slice-name-items.result.now in
    let at = c.loop-name.name-index in
    let below : at < length names = search rules in
    let there : Among names c.name-item.result = get_among names at c.name-item.result (slice_get-get_or names at c.name-item.result below ∙ ap Some (sym c.name-item.is)) in
    c.requires c.name-item.result (subst (λ (ks : List (List ℕ)). Among ks c.name-item.result) c.as_slice-name-items.ensures there)

pub loop-name-preserved : goal.loop-name-preserved
loop-name-preserved c =
    let names = c.as_slice-name-items.result.now in
    let at = c.loop-name.name-index in
    let t = value_found (book_view c.args.book.now) c.args.finished.now in
    let below : at < length names = search rules in
    let more = take_more names at c.name-item.result below ∙ ap (λ x. take at names ++ x ∷ []) (sym c.name-item.is) in
    subst (λ vs. AreValues t (take (at + 1) names) vs) (sym (c.in_ok-push.ensures {u = tt}))
    (subst (λ ks. AreValues t ks (c.loop-name.values ++ c.in_ok-value.field-0 ∷ [])) (sym more)
    (one_valued t (take at names) c.loop-name.values c.name-item.result c.in_ok-value.field-0 c.loop-name.invariant (c.in_ok-value.ensures {u = tt})))

pub returns : goal.returns
returns c =
    let names = c.as_slice-name-items.result.now in
    let t = value_found (book_view c.args.book.now) c.args.finished.now in
    subst (λ ks. AreValues t ks c.loop-name.values) (take_whole c.loop-name.name-index names c.loop-name-test.false ∙ c.as_slice-name-items.ensures) c.loop-name.invariant
