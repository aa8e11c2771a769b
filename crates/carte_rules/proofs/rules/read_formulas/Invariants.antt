use Rattle.std.proofs.Common.{Result}
use Rattle.toml.specs.View.{table_view, members_view}
use Rattle.carte_book.specs.declared.fault.BookFault.{BookFault}
use Rattle.carte_rules.specs.Drafts.{Holds}
use Rattle.carte_rules.specs.Reading.{Content, RulesInto}
use Rattle.carte_rules.proofs.rules.read_formulas.Given as goal

abbrev pub invariant-loop-key : goal.invariant-loop-key
invariant-loop-key l = (m : Content) → Holds l.fn.draft m → (n : Content) × Holds l.draft n × ((o : Result Content BookFault) → RulesInto (members_view l.key-iterator) n o → RulesInto (table_view l.fn.table) m o)
