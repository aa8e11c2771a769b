-- What the getters of matches read, by their rows.
use Rattle.std.proofs.Common.{◌≡◌, ◌∙◌, sym, List, Option, option_map}
use Rattle.clap.proofs.WalkLemmas.{first_value-rows, raw_values-rows}
use Rattle.clap.specs.Matches.{first_value, raw_values, matched_of}
use Rattle.clap.specs.Walk.{Text, first_of, all_of, rows_of}
use Rattle.clap.specs.declared.parser.matches.Found.{Found}

pub value_at : (f : Found) (id : Text) → first_value f id ≡ first_of id (rows_of f)
value_at f id = first_value-rows f id

pub values_at : (f : Found) (id : Text) (o : Option (List Text)) → o ≡ option_map raw_values (matched_of f id) → all_of id (rows_of f) ≡ o
values_at f id o e = sym (raw_values-rows f id) ∙ sym e
