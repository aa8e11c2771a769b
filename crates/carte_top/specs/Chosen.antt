-- What the words choose.
use Rattle.std.specs.Prelude.{ℕ, List, Result}
use Rattle.carte_name.specs.declared.kind.Kind.{Kind}
use Rattle.carte_name.specs.declared.kind.Kind.TheVariants.{Rules, Sheet}
use Rattle.carte_book.specs.Book.{Book}
use Rattle.carte_book.specs.declared.fault.BookFault.{BookFault}
use Rattle.carte_rules.specs.Reading.{BookOf as RulesOf}
use Rattle.carte_sheet.specs.Reading.{BookOf as SheetOf}
use Rattle.carte_words.specs.declared.words.Words.{Words as Asked}
use Rattle.carte_shell.specs.declared.choices.Choices.{Choices}
pub use Rattle.carte_shell.specs.Chosen.{scheduler_of, how_of}

-- for all builds of a run
abbrev pub choices_of : Asked → Choices
choices_of w = record { scheduler = w.scheduler; rebuilder = w.rebuilder; workers = w.workers; list = w.list }

-- the book that bytes are, or why they are none, by the kind of book
abbrev pub BookOfKind : Kind → List ℕ → Result Book BookFault → Type 0
BookOfKind Rules bytes o = RulesOf bytes o
BookOfKind Sheet bytes o = SheetOf bytes o
