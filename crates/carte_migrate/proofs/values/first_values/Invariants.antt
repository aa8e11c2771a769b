use Rattle.std.proofs.Common.{◌≡◌, map, take}
use Rattle.carte_value.specs.declared.digest.Digest.{Digest}
use Rattle.carte_value.specs.Spelling.{digest_of}
use Rattle.carte_table.specs.Lookups.{first_value}
use Rattle.carte_sound.specs.Lists.{EachOnce}
use Rattle.carte_migrate.proofs.values.first_values.Given as goal

abbrev pub invariant-loop-value : goal.invariant-loop-value
invariant-loop-value l = record {
  first : (d : Digest) → first_value l.list d ≡ first_value (take l.value-index l.value-items) d;
  once : EachOnce (map digest_of l.list);
}
