use Rattle.std.proofs.Common.{arith}
use Rattle.std.proofs.lemmas.Int.{to_z-of_z}
use Rattle.carte_functions.proofs.Bests.{least_of_min}
use Rattle.carte_functions.proofs.numbers.lesser.Goals as goal

pub returns-in-Some : goal.returns-in-Some
returns-in-Some c vs = rw (c.in-Some.is, c.in-Number.is) (grind (arith, to_z-of_z, least_of_min))
