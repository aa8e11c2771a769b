use Rattle.std.proofs.Common.{arith}
use Rattle.std.proofs.lemmas.List.{get_or-drop}
use Rattle.carte_name.proofs.front.low.Goals as goal

pub returns : goal.returns
returns c = omega (arith, c.from_be_bytes.ensures, c.told-front, get_or-drop 8 c.args.front.now 0 0, get_or-drop 8 c.args.front.now 1 0, get_or-drop 8 c.args.front.now 2 0, get_or-drop 8 c.args.front.now 3 0, get_or-drop 8 c.args.front.now 4 0, get_or-drop 8 c.args.front.now 5 0, get_or-drop 8 c.args.front.now 6 0, get_or-drop 8 c.args.front.now 7 0)
