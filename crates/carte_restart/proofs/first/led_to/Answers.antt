use Rattle.std.proofs.Common.{◌<◌, ◌≤◌, ◌+◌, length, sym, subst, rules, arith}
use Rattle.carte_record.specs.Kept.{kept_view}
use Rattle.carte_mark.proofs.Putting.{get_there}
use Rattle.carte_restart.proofs.Leading.{IsLeading, leading_first, leading_next, all_led, led_few}
use Rattle.carte_restart.proofs.first.led_to.Goals as goal

pub loop-next-init : goal.loop-next-init
loop-next-init c = leading_first (kept_view c.args.kept.now) c.args.targets.now c.in_ok-led.led (c.in_ok-led.ensures {u = tt})

pub loop-next-smaller : goal.loop-next-smaller
loop-next-smaller c =
    let few = led_few c.args.kept.now c.args.targets.now c.loop-next.led c.loop-next.next c.as_slice.ensures.once c.loop-next.invariant in
    let below : c.loop-next.next < length c.loop-next.led = search rules in
    omega arith

pub loop-next-preserved : goal.loop-next-preserved
loop-next-preserved c =
    let K = kept_view c.args.kept.now in
    let ts = c.args.targets.now in
    let names = c.loop-next.led in
    let below : c.loop-next.next < length names = search rules in
    let there = get_there names c.loop-next.next below in
    subst (λ new. IsLeading K ts new (c.loop-next.next + 1)) (sym ((c.in_ok-put_needs_at.ensures {u = tt}) there.0 there.1))
    (leading_next K ts names c.loop-next.next there.0 below there.1 c.loop-next.invariant)

pub returns : goal.returns
returns c =
    let past : length c.loop-next.led ≤ c.loop-next.next = search rules in
    all_led (kept_view c.args.kept.now) c.args.targets.now c.loop-next.led c.loop-next.next past c.loop-next.invariant
