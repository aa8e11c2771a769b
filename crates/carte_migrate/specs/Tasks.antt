-- Where the tasks of keys are looked up.
use Rattle.std.specs.Prelude.{ℕ, ◌≡◌, List, Some}
use Rattle.carte_book.specs.Book.{Book}
use Rattle.carte_book.specs.Task.{task_now}
use Rattle.carte_record.specs.declared.entry.Entry.{Entry}
use Rattle.carte_record.specs.Lookups.{first_entry}
use Rattle.carte_sound.specs.True.{or_none}

-- the entries have the tasks of their keys
abbrev pub KnowsTasks : Book → List Entry → Type 0
KnowsTasks b es = (k : List ℕ) (e : Entry) → first_entry es k ≡ Some e → e.task ≡ or_none (task_now b k)
