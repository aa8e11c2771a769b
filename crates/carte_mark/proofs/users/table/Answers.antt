use Rattle.std.proofs.Common.{◌<◌, ◌≤◌, [], ◌∷◌, ◌++◌, length, take, ap, sym, ◌∙◌, subst, rules}
use Rattle.std.proofs.lemmas.List.{take_more}
use Rattle.carte_table.proofs.Fronts.{take_whole}
use Rattle.carte_mark.specs.Tables.{users_by}
use Rattle.carte_mark.proofs.Using.{AreUsersSoFar, users_more, users_all}
use Rattle.carte_mark.proofs.users.table.Goals as goal

pub loop-entry-preserved : goal.loop-entry-preserved
loop-entry-preserved c =
    let entries = c.as_slice-entry-items.result.now in
    let at = c.loop-entry.entry-index in
    let below : at < length entries = search rules in
    let more = take_more entries at c.entry-item.result below ∙ ap (λ x. take at entries ++ x ∷ []) (sym c.entry-item.is) in
    let mid = users_by c.loop-entry.users in
    let new = users_by c.add_entry.new.users in
    subst (λ es. AreUsersSoFar c.args.entries.now es new) (sym more)
    (users_more c.args.entries.now (take at entries) c.entry-item.result mid new c.loop-entry.invariant (c.in_ok-add_entry.ensures {u = tt}))

pub returns : goal.returns
returns c =
    let entries = c.as_slice-entry-items.result.now in
    let at = c.loop-entry.entry-index in
    let past : length entries ≤ at = search rules in
    let all = take_whole at entries past ∙ c.as_slice-entry-items.ensures in
    let d = users_by c.loop-entry.users in
    users_all c.args.entries.now d (subst (λ es. AreUsersSoFar c.args.entries.now es d) all c.loop-entry.invariant)
