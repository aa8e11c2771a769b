use Rattle.std.proofs.Common.{arith}
use Rattle.carte_name.proofs.Written.{four_digits}
use Rattle.carte_name.proofs.place.number.Goals as goal

pub returns-in-len4 : goal.returns-in-len4
returns-in-len4 c =
    four_digits c.args.digits.now _ _ _ _ c.requires (omega arith) c.digit-in-len4.ensures.value c.digit-in-len4-2.ensures.value c.digit-in-len4-3.ensures.value c.digit-in-len4-4.ensures.value
