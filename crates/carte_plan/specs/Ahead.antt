-- Digests of tasks that are worked out before the keys are noted.
use Rattle.std.specs.Prelude.{ℕ, ◌≡◌, List, Option, Some, slice_get}
use Rattle.carte_value.specs.declared.digest.Digest.{Digest}
use Rattle.carte_book.specs.declared.book.Book.{Book as CodeBook}
use Rattle.carte_book.specs.Book.{Book, book_view}
use Rattle.carte_book.specs.Places.{task_at}
use Rattle.carte_book.specs.Task.{task_now}
use Rattle.carte_note.specs.declared.finished.Finished.{Finished}
use Rattle.carte_note.specs.Right.{key_of}
use Rattle.carte_note.specs.Writes.{task_made}

-- what is there for a finished key is the digest of its task
abbrev pub AreAhead : Book → List Finished → List (Option Digest) → Type 0
AreAhead b fs ts = (i : ℕ) (d : Digest) (f : Finished) → slice_get ts i ≡ Some (Some d) → slice_get fs i ≡ Some f → d ≡ task_made b f

-- the finished key that is named for a place of the book has the task that stands there
abbrev pub StandThere : CodeBook → List Finished → List (Option ℕ) → Type 0
StandThere b fs ws = (p i : ℕ) (f : Finished) → slice_get ws p ≡ Some (Some i) → slice_get fs i ≡ Some f → task_at b p ≡ task_now (book_view b) (key_of f)
