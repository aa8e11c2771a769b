use Rattle.std.proofs.Common.{◌<◌, ◌≤◌, [], ◌∷◌, ◌++◌, length, take, Result, Ok, Err, ap, sym, ◌∙◌, subst, rules}
use Rattle.std.proofs.lemmas.List.{take_more}
use Rattle.std.specs.Prelude.{IfOk}
use Rattle.carte_book.specs.Book.{book_view}
use Rattle.carte_record.specs.Kept.{kept_view}
use Rattle.carte_table.proofs.Fronts.{take_whole}
use Rattle.carte_sound.specs.Marks.{IsChanged}
use Rattle.carte_mark.specs.Marking.{ArePicked}
use Rattle.carte_mark.proofs.Listing.{picked_first, picked_more}
use Rattle.carte_mark.proofs.watch.changed_among.Goals as goal

if_ok : {A E : Type 0} {P Q : A → Type 0} (r : Result A E) → ((x : A) → P x → Q x) → IfOk r P → IfOk r Q
if_ok (Ok x) f p = f x p
if_ok (Err e) f p = p

pub loop-name-init : goal.loop-name-init
loop-name-init c = picked_first (IsChanged (kept_view c.args.kept.now) (book_view c.args.book.now)) c.new-names.result.items (search rules)

pub loop-name-preserved : goal.loop-name-preserved
loop-name-preserved c =
    let P = IsChanged (kept_view c.args.kept.now) (book_view c.args.book.now) in
    let names = c.as_slice-name-items.result.now in
    let at = c.loop-name.name-index in
    let below : at < length names = search rules in
    let more = take_more names at c.name-item.result below ∙ ap (λ x. take at names ++ x ∷ []) (sym c.name-item.is) in
    let new = c.push_changed.new.names.items in
    subst (λ ns. ArePicked P ns new) (sym more) (picked_more P (take at names) c.name-item.result c.loop-name.names.items new c.loop-name.invariant (c.in_ok-push_changed.ensures {u = tt}))

pub returns : goal.returns
returns c =
    let P = IsChanged (kept_view c.args.kept.now) (book_view c.args.book.now) in
    let names = c.as_slice-name-items.result.now in
    let at = c.loop-name.name-index in
    let past : length names ≤ at = search rules in
    let all = take_whole at names past ∙ c.as_slice-name-items.ensures.names in
    let picked = subst (λ ns. ArePicked P ns c.loop-name.names.items) all c.loop-name.invariant in
    if_ok c.listed.result (λ listed is. subst (ArePicked P c.args.suspects.now) (sym is) picked) c.listed.ensures
