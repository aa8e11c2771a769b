-- The words that the program takes, as one simple command of `clap`.
use Rattle.std.specs.Prelude.{List, [], ◌∷◌, Some, true, codes}
use Rattle.clap.specs.Lexer.{usize_max}
use Rattle.clap.specs.Words.{App, Kinds, Row, Rule, Text, new_app, new_rule, with_rule, fault_of, matches_of}
use Rattle.clap.specs.declared.builder.action.ArgAction.TheVariants.{Set, SetTrue}

-- a word that has to be there, at its place
abbrev pub place_rule : Text → Rule
place_rule id = record (new_rule id) { required = true }

-- any number of words behind those
abbrev pub many_rule : Text → Rule
many_rule id = record (new_rule id) { range = Some (record { start_inclusive = 0; end_inclusive = usize_max }) }

-- `--ID VALUE` or `--ID=VALUE`, at most once
abbrev pub option_rule : Text → Rule
option_rule id = record (new_rule id) { long = Some id; action = Some Set }

-- the same, with a value where it isn't there
abbrev pub default_rule : Text → Text → Rule
default_rule id value = record (option_rule id) { defaults = value ∷ [] }

-- `--ID`, at most once
abbrev pub flag_rule : Text → Rule
flag_rule id = record (new_rule id) { long = Some id; action = Some SetTrue }

-- the words begin behind the program's name, and none of them asks for help
abbrev pub bare : App
bare = record (new_app (codes "carte")) { top = record (new_app (codes "carte")).top { no_binary_name = true; disable_help_flag = true } }

abbrev pub with_places : App → App
with_places a = with_rule (with_rule (with_rule (with_rule a (place_rule (codes "command"))) (place_rule (codes "book"))) (place_rule (codes "state"))) (many_rule (codes "target"))

abbrev pub with_options : App → App
with_options a = with_rule (with_rule (with_rule (with_rule (with_rule a (default_rule (codes "scheduler") (codes "suspending"))) (default_rule (codes "rebuilder") (codes "verifying"))) (default_rule (codes "workers") (codes "1")))
    (option_rule (codes "kind"))) (flag_rule (codes "list"))

unfoldable pub carte : App
carte = with_options (with_places bare)

-- why the words are none of the command's; empty where they are
unfoldable pub faults_of : List Text → Kinds
faults_of words = fault_of carte words

-- and the values of its arguments
unfoldable pub values_of : List Text → List Row
values_of words = matches_of carte words
