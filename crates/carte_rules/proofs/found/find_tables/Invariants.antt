use Rattle.std.proofs.Common.{◌≡◌}
use Rattle.toml.specs.View.{table_view, members_view}
use Rattle.carte_rules.specs.Found.{tables_view}
use Rattle.carte_rules.specs.Tables.{tables_into, no_tables}
use Rattle.carte_rules.proofs.found.find_tables.Given as goal

abbrev pub invariant-loop-key : goal.invariant-loop-key
invariant-loop-key l = tables_into (table_view l.fn.document) no_tables ≡ tables_into (members_view l.key-iterator) (tables_view l.found)
