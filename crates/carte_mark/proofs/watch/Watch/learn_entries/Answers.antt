use Rattle.std.proofs.Common.{◌<◌, ◌≤◌, length, refl, subst, rules}
use Rattle.std.proofs.lemmas.Option.{slice_get_read}
use Rattle.carte_record.specs.Kept.{kept_view}
use Rattle.carte_mark.specs.Watching.{KnowsEntries, suspects_in, users_in}
use Rattle.carte_mark.proofs.Learning.{entries_all, entries_first, entries_more, grows_on, grows_self, users_on}
use Rattle.carte_mark.proofs.watch.Watch.learn_entries.Goals as goal

pub loop-entry-init : goal.loop-entry-init
loop-entry-init c =
    let first = c.args.self.now in
    (grows_self (suspects_in first) (users_in first), (λ users. entries_first (suspects_in first) (users_in first) c.as_slice-entry-items.result.now))

pub loop-entry-preserved : goal.loop-entry-preserved
loop-entry-preserved c =
    let K = kept_view c.args.kept.now in
    let entries = c.as_slice-entry-items.result.now in
    let at = c.loop-entry.entry-index in
    let below : at < length entries = search rules in
    let here = slice_get_read entries (length entries) at c.entry-item.result refl below c.entry-item.is in
    let first = c.args.self.now in
    let old = c.loop-entry.self in
    let new = c.learn_entry.new.self in
    let so = c.loop-entry.invariant in
    let learns = c.in_ok-learn_entry.ensures {u = tt} in (
      grows_on (suspects_in first) (suspects_in old) (suspects_in new) (users_in first) (users_in old) (users_in new) so.0 learns.0,
      (λ users. entries_more (suspects_in old) (suspects_in new) (users_in old) (users_in new) entries at c.entry-item.result here learns.0
          (learns.1 (users_on K (suspects_in first) (suspects_in old) (users_in first) (users_in old) so.0 users)) (so.1 users)),
    )

pub returns : goal.returns
returns c =
    let entries = c.as_slice-entry-items.result.now in
    let at = c.loop-entry.entry-index in
    let past : length entries ≤ at = search rules in
    let last = c.loop-entry.self in (
      c.loop-entry.invariant.0,
      (λ users. subst (KnowsEntries (suspects_in last) (users_in last)) c.as_slice-entry-items.ensures (entries_all (suspects_in last) (users_in last) entries at past (c.loop-entry.invariant.1 users))),
    )
