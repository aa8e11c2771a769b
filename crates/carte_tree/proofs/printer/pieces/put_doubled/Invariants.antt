use Rattle.std.proofs.Common.{◌≡◌, ◌++◌, drop}
use Rattle.carte_value.specs.Lists.{Begins}
use Rattle.carte_tree.specs.Printed.{doubled}
use Rattle.carte_tree.proofs.printer.pieces.put_doubled.Given as goal

abbrev pub invariant-loop-byte : goal.invariant-loop-byte
invariant-loop-byte l = (l.out.items ++ doubled (drop l.byte-index l.text) ≡ l.fn.out.items ++ doubled l.fn.text) × Begins l.fn.out.items l.out.items
