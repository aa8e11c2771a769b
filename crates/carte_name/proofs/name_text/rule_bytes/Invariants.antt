use Rattle.std.proofs.Common.{IsTrue, take}
use Rattle.std.specs.List.{list_all}
use Rattle.carte_name.specs.Names.{is_name_byte}
use Rattle.carte_name.proofs.name_text.rule_bytes.Given as goal

abbrev pub invariant-loop-at : goal.invariant-loop-at
invariant-loop-at l = IsTrue (list_all is_name_byte (take l.at l.text))
