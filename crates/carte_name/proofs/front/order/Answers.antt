use Rattle.std.proofs.Common.{ap, ◌∙◌, refl, drop}
use Rattle.std.specs.Ordering.{nat_cmp, ordering_then}
use Rattle.std.specs.Int.{w64, from_be_bytes}
use Rattle.carte_name.proofs.Fronts.{numbers_order, unlike_first}
use Rattle.carte_name.proofs.front.order.Goals as goal

pub returns-in-Equal : goal.returns-in-Equal
returns-in-Equal c =
    let lows = nat_cmp c.low.result c.low-in-Equal.result in
    c.cmp-in-Equal.ensures
    ∙ ap (λ r. ordering_then r lows) c.in-Equal.ensures
    ∙ numbers_order c.args.front.now c.args.other.now _ _ _ _ (record { long = c.told-front; small = c.fits-front; high = c.high.ensures; low = c.low.ensures }) (record { long = c.told-other; small = c.fits-other; high = c.high-2.ensures; low = c.low-in-Equal.ensures })

pub returns-in_default : goal.returns-in_default
returns-in_default c =
    let lows = nat_cmp (from_be_bytes w64 (drop 8 c.args.front.now)) (from_be_bytes w64 (drop 8 c.args.other.now)) in
    unlike_first c.cmp.result lows c.in_default.not-Equal
    ∙ ap (λ r. ordering_then r lows) c.cmp.ensures
    ∙ numbers_order c.args.front.now c.args.other.now _ _ _ _ (record { long = c.told-front; small = c.fits-front; high = c.high.ensures; low = refl }) (record { long = c.told-other; small = c.fits-other; high = c.high-2.ensures; low = refl })
