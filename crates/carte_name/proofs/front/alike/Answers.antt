use Rattle.std.proofs.Common.{refl}
use Rattle.carte_name.proofs.Fronts.{numbers_alike, numbers_unlike}
use Rattle.carte_name.proofs.front.alike.Goals as goal

pub returns-then-high : goal.returns-then-high
returns-then-high c = numbers_alike c.args.front.now c.args.other.now _ _ _ _ (record { long = c.told-front; small = c.fits-front; high = c.high.ensures; low = c.low.ensures }) (record { long = c.told-other; small = c.fits-other; high = c.high-2.ensures; low = c.low-then-high.ensures }) c.if-high.true

pub returns-else-high : goal.returns-else-high
returns-else-high c = numbers_unlike c.args.front.now c.args.other.now _ _ _ _ (record { long = c.told-front; small = c.fits-front; high = c.high.ensures; low = refl }) (record { long = c.told-other; small = c.fits-other; high = c.high-2.ensures; low = refl }) c.if-high.false
