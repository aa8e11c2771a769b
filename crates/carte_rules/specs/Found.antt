-- The tables of a document that is read.
use Rattle.toml.specs.View.{table_view}
use Rattle.carte_rules.specs.Tables.{Tables}
use Rattle.carte_rules.specs.declared.found.Found.{Found}

abbrev pub tables_view : Found → Tables
tables_view f = record { inputs = table_view f.inputs; rules = table_view f.rules }
