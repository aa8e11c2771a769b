-- What a line of a session finds and leaves.
use Rattle.std.specs.Prelude.{ℕ}
use Rattle.carte_io.specs.Disk.{Story}
use Rattle.carte_book.specs.Book.{Book, book_view}
use Rattle.carte_state.specs.States.{Stand}
use Rattle.carte_shell.specs.declared.choices.Choices.{Choices}
use Rattle.carte_shell.specs.declared.shell.Shell.{Shell}

-- what the words choose, the book in memory, the state as it is kept in memory, the disk's story, and how often the disk has failed
pub record Scene : Type 0 where
  pub choices : Choices
  pub book : Book
  pub stand : Stand
  pub story : Story
  pub faults : ℕ

-- a shell beside its disk
abbrev pub scene : {D : Type 0} → (D → Story) → (D → ℕ) → Shell × D → Scene
scene story faults m = record { choices = m.0.choices; book = book_view m.0.book; stand = m.0.engine; story = story m.1; faults = faults m.1 }
