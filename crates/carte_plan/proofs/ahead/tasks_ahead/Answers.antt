use Rattle.std.proofs.Common.{◌≡◌, ◌⊎◌, ◌<◌, ◌∙◌, ℕ, List, Option, Some, ap, length, refl, rules, slice_get, subst, sym}
use Rattle.std.proofs.lemmas.List.{length-map}
use Rattle.std.proofs.lemmas.Option.{slice_get_read}
use Rattle.carte_value.specs.declared.digest.Digest.{Digest}
use Rattle.carte_book.specs.Places.{task_at}
use Rattle.carte_mark.specs.Reached.{tasks_at}
use Rattle.carte_plan.proofs.TasksAhead.{ahead_more, task_there}
use Rattle.carte_plan.proofs.ahead.tasks_ahead.Goals as goal

pub loop-at-preserved : goal.loop-at-preserved
loop-at-preserved g c =
    let b = c.args.book.now in
    let ws = c.in_ok-whose.whose.items in
    let ps = c.in_ok-places.places.items in
    let ds = c.in_ok-digests.digests.items in
    let ts = c.loop-at.tasks.items in
    let us = c.put.new.tasks.items in
    let at = c.loop-at.at in
    let p = c.index.result.now in
    let d = c.index-in-loop-at.result.now in
    let below : at < length ps = search rules in
    let are : ds ≡ tasks_at b ps = c.in_ok-digests.ensures {u = tt} ∙ ap (tasks_at b) c.as_slice-2.ensures.value in
    let below_d = subst (λ n. at < n) (sym (ap length are ∙ length-map ps (task_at b))) below in
    let at_p = slice_get_read ps (length ps) at p refl below c.index.ensures in
    let at_d = slice_get_read ds (length ds) at d refl below_d c.index-in-loop-at.ensures in
    let new = subst (λ (xs : List (Option ℕ)). (i : ℕ) (e : Digest) → slice_get us i ≡ Some (Some e) → slice_get ts i ≡ Some (Some e) ⊎ ((slice_get xs p ≡ Some (Some i)) × (d ≡ Some e))) c.as_slice-in-loop-at.ensures.value c.put.ensures in
    ahead_more b c.args.finished.now ws ts us p d (c.in_ok-whose.ensures {u = tt}) (task_there b ps ds at p d are at_p at_d) c.loop-at.invariant new
