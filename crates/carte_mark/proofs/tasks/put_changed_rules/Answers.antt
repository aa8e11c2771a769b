use Rattle.std.proofs.Common.{◌<◌, ◌≤◌, length, refl, subst, rules}
use Rattle.std.proofs.lemmas.Option.{slice_get_read}
use Rattle.carte_book.specs.Book.{book_view}
use Rattle.carte_record.specs.Kept.{kept_view}
use Rattle.carte_mark.proofs.OtherTasks.{AreOthersBefore, others_first, others_more, others_all}
use Rattle.carte_mark.proofs.tasks.put_changed_rules.Goals as goal

pub loop-entry-init : goal.loop-entry-init
loop-entry-init c = others_first (kept_view c.args.kept.now) (book_view c.args.book.now) c.as_slice-entry-items.result.now c.args.names.now

pub loop-entry-preserved : goal.loop-entry-preserved
loop-entry-preserved c =
    let entries = c.as_slice-entry-items.result.now in
    let at = c.loop-entry.entry-index in
    let below : at < length entries = search rules in
    let here = slice_get_read entries (length entries) at c.entry-item.result refl below c.entry-item.is in
    others_more (kept_view c.args.kept.now) (book_view c.args.book.now) entries at c.entry-item.result c.args.names.now c.loop-entry.names c.add_changed_rule.new.names here c.loop-entry.invariant (c.in_ok-add_changed_rule.ensures {u = tt})

pub returns : goal.returns
returns c =
    let K = kept_view c.args.kept.now in
    let b = book_view c.args.book.now in
    let entries = c.as_slice-entry-items.result.now in
    let at = c.loop-entry.entry-index in
    let past : length entries ≤ at = search rules in
    let is = c.as_slice-entry-items.ensures in
    let old = c.args.names.now in
    let so = subst (λ es. AreOthersBefore K b es at old c.loop-entry.names) is c.loop-entry.invariant in
    others_all c.args.kept.now b at old c.loop-entry.names (subst (λ es. length es ≤ at) is past) so
