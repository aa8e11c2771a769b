use Rattle.std.proofs.Common.{◌≡◌, drop}
use Rattle.std.specs.FinMap.{empty}
use Rattle.carte_rules.specs.Drafts.{Holds}
use Rattle.carte_rules.specs.Entries.{keys_of, members_of}
use Rattle.carte_rules.specs.Reading.{Content, inputs_into}
use Rattle.carte_rules.proofs.Fresh.{KeysFresh}
use Rattle.carte_rules.proofs.entries.put_inputs.Given as goal

abbrev pub invariant-loop-entry : goal.invariant-loop-entry
invariant-loop-entry l = (m : Content) × (inputs_into (members_of l.entries) empty ≡ inputs_into (members_of (drop l.entry-index l.entries)) m) × Holds l.draft m × KeysFresh m (keys_of (drop l.entry-index l.entries))
