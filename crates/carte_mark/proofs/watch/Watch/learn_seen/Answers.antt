use Rattle.std.proofs.Common.{◌<◌, ◌≤◌, length, refl, subst, rules}
use Rattle.std.proofs.lemmas.Option.{slice_get_read}
use Rattle.carte_mark.specs.Watching.{KnowsSeen, suspects_in, users_in}
use Rattle.carte_mark.proofs.Learning.{grows_on, grows_put, grows_self, seen_all, seen_first, seen_more}
use Rattle.carte_mark.proofs.watch.Watch.learn_seen.Goals as goal

pub loop-link-init : goal.loop-link-init
loop-link-init c = (grows_self (suspects_in c.args.self.now) (users_in c.args.self.now), seen_first (suspects_in c.args.self.now) c.as_slice-link-items.result.now)

pub loop-link-preserved : goal.loop-link-preserved
loop-link-preserved c =
    let links = c.as_slice-link-items.result.now in
    let at = c.loop-link.link-index in
    let below : at < length links = search rules in
    let here = slice_get_read links (length links) at c.link-item.result refl below c.link-item.is in
    let first = c.args.self.now in
    let old = c.loop-link.self in
    let js = c.put.new.names in
    let put = (c.in_ok-put.ensures {u = tt}).put in (
      grows_on (suspects_in first) (suspects_in old) js (users_in first) (users_in old) (users_in old) c.loop-link.invariant.0 (grows_put (suspects_in old) js (users_in old) c.link-item.result.name put),
      seen_more (suspects_in old) js links at c.link-item.result here put c.loop-link.invariant.1,
    )

pub returns : goal.returns
returns c =
    let links = c.as_slice-link-items.result.now in
    let at = c.loop-link.link-index in
    let past : length links ≤ at = search rules in
    let last = suspects_in c.loop-link.self in
    (c.loop-link.invariant.0, subst (KnowsSeen last) c.as_slice-link-items.ensures (seen_all last links at past c.loop-link.invariant.1))
