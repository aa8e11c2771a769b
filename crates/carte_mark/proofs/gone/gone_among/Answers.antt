use Rattle.std.proofs.Common.{◌<◌, ◌≤◌, [], ◌∷◌, ◌++◌, length, take, ap, sym, ◌∙◌, subst, rules}
use Rattle.std.proofs.lemmas.List.{take_more}
use Rattle.carte_table.proofs.Fronts.{take_whole}
use Rattle.carte_book.specs.Book.{book_view}
use Rattle.carte_record.specs.Kept.{kept_view}
use Rattle.carte_sound.specs.Begun.{IsGone}
use Rattle.carte_mark.specs.Marking.{ArePicked}
use Rattle.carte_mark.proofs.Listing.{picked_first, picked_more}
use Rattle.carte_mark.proofs.gone.gone_among.Goals as goal

pub loop-name-init : goal.loop-name-init
loop-name-init c = picked_first (IsGone (kept_view c.args.kept.now) (book_view c.args.book.now)) c.new-gone.result.items (search rules)

pub loop-name-preserved : goal.loop-name-preserved
loop-name-preserved c =
    let names = c.as_slice-name-items.result.now in
    let at = c.loop-name.name-index in
    let below : at < length names = search rules in
    let more = take_more names at c.name-item.result below ∙ ap (λ x. take at names ++ x ∷ []) (sym c.name-item.is) in
    let new = c.push_gone.new.gone.items in
    subst (λ ns. ArePicked (IsGone (kept_view c.args.kept.now) (book_view c.args.book.now)) ns new) (sym more)
    (picked_more (IsGone (kept_view c.args.kept.now) (book_view c.args.book.now)) (take at names) c.name-item.result c.loop-name.gone.items new c.loop-name.invariant (c.in_ok-push_gone.ensures {u = tt}))

pub returns : goal.returns
returns c =
    let names = c.as_slice-name-items.result.now in
    let at = c.loop-name.name-index in
    let past : length names ≤ at = search rules in
    let all = take_whole at names past ∙ c.as_slice-name-items.ensures.names in
    subst (λ ns. ArePicked (IsGone (kept_view c.args.kept.now) (book_view c.args.book.now)) ns c.loop-name.gone.items) all c.loop-name.invariant
