use Rattle.std.proofs.Common.{◌<◌, ◌≤◌, length, refl, subst, rules}
use Rattle.std.proofs.lemmas.Option.{slice_get_read}
use Rattle.carte_book.specs.Book.{book_view}
use Rattle.carte_record.specs.Kept.{kept_view}
use Rattle.carte_mark.proofs.Changing.{AreChangedBefore, changed_first, changed_more, changed_all}
use Rattle.carte_mark.proofs.changed.changed_inputs.Goals as goal

pub loop-link-init : goal.loop-link-init
loop-link-init c = changed_first (kept_view c.args.kept.now) (book_view c.args.book.now) c.as_slice-link-items.result.now c.new-names.result c.new-names.ensures

pub loop-link-preserved : goal.loop-link-preserved
loop-link-preserved c =
    let links = c.as_slice-link-items.result.now in
    let at = c.loop-link.link-index in
    let below : at < length links = search rules in
    let here = slice_get_read links (length links) at c.link-item.result refl below c.link-item.is in
    changed_more (kept_view c.args.kept.now) (book_view c.args.book.now) links at c.link-item.result c.loop-link.names c.add_changed.new.names here c.loop-link.invariant (c.in_ok-add_changed.ensures {u = tt})

pub returns : goal.returns
returns c =
    let K = kept_view c.args.kept.now in
    let b = book_view c.args.book.now in
    let links = c.as_slice-link-items.result.now in
    let at = c.loop-link.link-index in
    let past : length links ≤ at = search rules in
    let is = c.as_slice-link-items.ensures in
    let so = subst (λ ls. AreChangedBefore K b ls at c.loop-link.names) is c.loop-link.invariant in
    changed_all c.args.kept.now b at c.loop-link.names (subst (λ ls. length ls ≤ at) is past) so
