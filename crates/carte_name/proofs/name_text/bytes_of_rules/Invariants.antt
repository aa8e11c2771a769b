use Rattle.std.proofs.Common.{◌≡◌, take}
use Rattle.std.specs.List.{count_by}
use Rattle.carte_name.specs.Names.{is_name_byte}
use Rattle.carte_name.proofs.name_text.bytes_of_rules.Given as goal

abbrev pub invariant-loop-byte : goal.invariant-loop-byte
invariant-loop-byte l = l.count ≡ count_by is_name_byte (take l.byte-index l.front)
