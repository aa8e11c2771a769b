use Rattle.std.proofs.Common.{◌<◌, length, take, Some, sym, subst, arith}
use Rattle.carte_bench.specs.Held.{spots_of, book_of}
use Rattle.carte_bench.specs.Waits.{onward}
use Rattle.carte_progress.specs.Reasons.{HaveNone, FirstReason}
use Rattle.carte_progress.proofs.Whys.{parted, one_more, none_end, first_in}
use Rattle.carte_progress.proofs.reasons.first_reason.Goals as goal

pub returns-in-Some : goal.returns-in-Some
returns-in-Some g c =
    let f = onward (book_of c.args.bench.now) (spots_of c.args.bench.now) in
    let ts = c.args.targets.now in
    let at = c.loop-at.at in
    let t = c.index-targets-at.result in
    let below : at < length ts = omega arith in
    let p = parted ts at t below c.index-targets-at.is in
    let waits = rw c.in-Some.is at (c.in_ok-reason.ensures {u = tt}) in
    subst (λ xs. FirstReason f xs (Some c.in-Some.reason)) (sym p.1) (first_in f (take at ts) p.0 t c.in-Some.reason c.loop-at.invariant waits)

pub loop-at-preserved : goal.loop-at-preserved
loop-at-preserved g c =
    let f = onward (book_of c.args.bench.now) (spots_of c.args.bench.now) in
    let ts = c.args.targets.now in
    let at = c.loop-at.at in
    let t = c.index-targets-at.result in
    let below : at < length ts = omega arith in
    let waits = rw c.in_default.is at (c.in_ok-reason.ensures {u = tt}) in
    subst (HaveNone f) (sym (one_more ts at t below c.index-targets-at.is)) (none_end f (take at ts) t c.loop-at.invariant waits)
