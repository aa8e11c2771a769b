use Rattle.std.proofs.Common.{arith, get_or-take}
use Rattle.carte_name.proofs.front.high.Goals as goal

pub returns : goal.returns
returns c = omega (arith, c.from_be_bytes.ensures, c.told-front, get_or-take 8 c.args.front.now 0 0 (omega arith), get_or-take 8 c.args.front.now 1 0 (omega arith), get_or-take 8 c.args.front.now 2 0 (omega arith), get_or-take 8 c.args.front.now 3 0 (omega arith), get_or-take 8 c.args.front.now 4 0 (omega arith), get_or-take 8 c.args.front.now 5 0 (omega arith), get_or-take 8 c.args.front.now 6 0 (omega arith), get_or-take 8 c.args.front.now 7 0 (omega arith))
