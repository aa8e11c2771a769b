-- A run of which it is due that all is done, by either scheduler and each rebuilder: so what is said of such runs isn't said of none.
use Rattle.std.specs.Prelude.{ℕ, ◌≡◌, pos, List, [], ◌∷◌, codes, Ok}
use Rattle.std.specs.FinMap.{empty, insert}
use Rattle.carte_io.specs.Disk.{Story}
use Rattle.carte_io.specs.Streams.{SourceState}
use Rattle.carte_name.specs.declared.kind.Kind.TheVariants.{Rules}
use Rattle.carte_value.specs.declared.value.Value.TheVariants.{Number}
use Rattle.carte_book.specs.Book.{Book, input}
use Rattle.carte_rules.specs.Reading.{BookOf}
use Rattle.carte_report.specs.declared.status.Status.TheVariants.{Done}
use Rattle.carte_words.specs.Words.{words_of}
use Rattle.carte_words.specs.declared.words.Command.TheVariants as command
use Rattle.carte_words.specs.declared.words.Words.{Words as Asked}
use Rattle.carte_top.specs.Around.{OverSource, OverDisk}
use Rattle.carte_top.specs.Due.{IsDue}

-- the rule file with one input, which is 1
abbrev pub plain_book : Book
plain_book = record { kind = Rules; items = insert empty (codes "a") (input (Number (pos 1))) }

-- the words ask to build it
pub record AsksPlainly (words : List (List ℕ)) : Type 0 where
  pub asked : Asked
  pub meant : words_of words ≡ Ok asked
  pub build : asked.command ≡ command.Build
  pub kind : asked.kind ≡ Rules
  pub targets : asked.targets ≡ codes "a" ∷ []

abbrev pub told_source : SourceState → OverSource
told_source s = record { tells = Unit {0}; old = s; new = s }

abbrev pub told_disk : Story → OverDisk
told_disk s = record { tells = Unit {0}; old = s; new = s; failed_before = 0; failed = 0; same = Unit {0} }

-- law: over an empty state it is due that all is done
abbrev pub PlainIsDue : Type 0
PlainIsDue = (limit : ℕ) (words : List (List ℕ)) (book script : SourceState) (state : Story) → AsksPlainly words → BookOf book.left (Ok plain_book) → state.now.reads ≡ [] → IsDue limit words (told_source book) (told_source script) (told_disk state) Done
