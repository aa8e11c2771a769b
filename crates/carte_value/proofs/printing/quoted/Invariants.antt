use Rattle.std.proofs.Common.{◌≡◌, ◌∷◌, string_bytes, encode_utf8_all}
use Rattle.std.specs.List.{flat_map}
use Rattle.carte_value.specs.Printed.{escaped}
use Rattle.carte_value.proofs.printing.quoted.Given as goal

abbrev pub invariant-loop-c : goal.invariant-loop-c
invariant-loop-c l = string_bytes l.out ≡ 34 ∷ flat_map escaped (encode_utf8_all l.yielded)
