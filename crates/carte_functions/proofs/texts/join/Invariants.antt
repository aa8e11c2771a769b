use Rattle.std.proofs.Common.{◌≡◌, ◌++◌, drop, string_bytes}
use Rattle.std.specs.List.{flat_map}
use Rattle.carte_tree.specs.Coercions.{text_of}
use Rattle.carte_functions.proofs.texts.join.Given as goal

abbrev pub invariant-loop-value : goal.invariant-loop-value
invariant-loop-value l = string_bytes l.text ++ flat_map text_of (drop l.value-index l.values) ≡ flat_map text_of l.values
