-- What stands at a place of a book in memory, whose names stand in the order in which they were added.
use Rattle.std.specs.Prelude.{ℕ, Option, slice_get}
use Rattle.indexmap.specs.IndexMap.{values}
use Rattle.carte_value.specs.declared.digest.Digest.{Digest}
use Rattle.carte_book.specs.declared.book.Book.{Book as CodeBook}
use Rattle.carte_book.specs.Task.{task_held}

-- the digest of the task of what stands at a place, counted from 0
abbrev pub task_at : CodeBook → ℕ → Option Digest
task_at b at = task_held b.kind (slice_get (values b.items) at)
