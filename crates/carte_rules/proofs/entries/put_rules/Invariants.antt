use Rattle.std.proofs.Common.{Result, drop}
use Rattle.carte_book.specs.declared.fault.BookFault.{BookFault}
use Rattle.carte_rules.specs.Drafts.{Holds}
use Rattle.carte_rules.specs.Entries.{members_of}
use Rattle.carte_rules.specs.Reading.{Content, RulesInto}
use Rattle.carte_rules.proofs.entries.put_rules.Given as goal

abbrev pub invariant-loop-entry : goal.invariant-loop-entry
invariant-loop-entry l = (m : Content) → Holds l.fn.draft m → (n : Content) × Holds l.draft n × ((o : Result Content BookFault) → RulesInto (members_of (drop l.entry-index l.entries)) n o → RulesInto (members_of l.entries) m o)
