use Rattle.std.proofs.Common.{IsTrue, take}
use Rattle.std.specs.List.{list_all}
use Rattle.carte_name.specs.Names.{is_digit}
use Rattle.carte_name.proofs.name_text.digits.Given as goal

abbrev pub invariant-loop-at : goal.invariant-loop-at
invariant-loop-at l = IsTrue (list_all is_digit (take l.at l.text))
