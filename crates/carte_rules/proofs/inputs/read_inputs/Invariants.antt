use Rattle.std.proofs.Common.{◌≡◌}
use Rattle.std.specs.FinMap.{empty}
use Rattle.toml.specs.View.{table_view, members_view}
use Rattle.carte_rules.specs.Drafts.{Holds}
use Rattle.carte_rules.specs.Reading.{Content, inputs_into}
use Rattle.carte_rules.proofs.Fresh.{AllFresh}
use Rattle.carte_rules.proofs.inputs.read_inputs.Given as goal

abbrev pub invariant-loop-key : goal.invariant-loop-key
invariant-loop-key l = (m : Content) × (inputs_into (table_view l.fn.table) empty ≡ inputs_into (members_view l.key-iterator) m) × Holds l.draft m × AllFresh m l.key-iterator
