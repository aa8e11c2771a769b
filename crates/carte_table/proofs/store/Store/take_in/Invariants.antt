use Rattle.std.proofs.Common.{◌≡◌, length}
use Rattle.std.specs.Option.{option_or}
use Rattle.carte_value.specs.declared.digest.Digest.{Digest}
use Rattle.carte_table.specs.Lookups.{first_value}
use Rattle.carte_value.specs.Lists.{Begins}
use Rattle.carte_table.proofs.store.Store.take_in.Given as goal

abbrev pub invariant-loop-value : goal.invariant-loop-value
invariant-loop-value l = (l.at ≡ length l.yielded) × ((d : Digest) → first_value l.self d ≡ option_or (first_value l.initial.self d) (first_value l.yielded d)) × Begins l.initial.self l.self
