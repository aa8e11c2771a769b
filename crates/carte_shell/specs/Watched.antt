-- What is known between the builds of a session.
use Rattle.std.specs.Prelude.{◌≡◌, false, List, Option, Some, is_some}
use Rattle.carte_book.specs.Book.{Book}
use Rattle.carte_mark.specs.Watching.{Watches}
use Rattle.carte_mark.specs.declared.watch.Watch.{Watch}
use Rattle.carte_record.specs.declared.batch.Batch.{Batch}
use Rattle.carte_record.specs.Folds.{applied}
use Rattle.carte_state.specs.States.{Stand, kept_in}

-- a watch, where there is one, watches what is kept beside the book
abbrev pub IsWatchedIn : Stand → Book → Option Watch → Type 0
IsWatchedIn s b o = (w : Watch) → o ≡ Some w → (is_some s.one ≡ false) × Watches (kept_in s) b w

-- and so once these batches are put
abbrev pub IsWatchedBehind : Stand → Book → List Batch → Option Watch → Type 0
IsWatchedBehind s b Bs o = (w : Watch) → o ≡ Some w → (is_some s.one ≡ false) × Watches (applied (kept_in s) Bs) b w
