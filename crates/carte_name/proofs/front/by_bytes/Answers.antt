use Rattle.std.proofs.Common.{◌≡◌, ℕ, suc, ◌+◌, ◌<◌, ◌≤◌, length, take, min, refl, sym, ◌∙◌, subst, arith, slice_index_or, slice_set}
use Rattle.carte_name.specs.Fronts.{padded, front_of}
use Rattle.carte_name.proofs.Fronts.{padded_set, padded_take}
use Rattle.carte_name.proofs.front.by_bytes.Goals as goal

pub loop-at-init : goal.loop-at-init
loop-at-init c = refl

pub loop-at-preserved : goal.loop-at-preserved
loop-at-preserved c =
    let t = c.args.text.now in
    let at : ℕ = c.loop-at.at in
    let was : c.loop-at.front ≡ padded 16 (take at t) = c.loop-at.invariant in
    let next : suc at ≡ at + 1 = omega arith in
    let below : at < min (length t) 16 = subst (λ n. at < n) c.min-at-end.ensures c.loop-at-test.true in
    rw was (subst (λ n. slice_set (padded 16 (take at t)) at (slice_index_or t at 0) ≡ padded 16 (take n t)) next (sym (padded_set 16 at t (omega arith) (omega arith))))

pub returns : goal.returns
unfolding front_of
returns c =
    let t = c.args.text.now in
    let at : ℕ = c.loop-at.at in
    let was : c.loop-at.front ≡ padded 16 (take at t) = c.loop-at.invariant in
    let all : min (length t) 16 ≤ at = subst (λ n. n ≤ at) c.min-at-end.ensures c.loop-at-test.false in
    was ∙ padded_take 16 at t all
