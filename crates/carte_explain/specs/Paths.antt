-- Paths by the needs of entries to names that have changed.
use Rattle.std.specs.Prelude.{ℕ, ◌≡◌, ◌-◌, Bool, false, ◌||◌, List, [], ◌∷◌, length, slice_get, Option, Some, None}
use Rattle.carte_book.specs.Book.{Book}
use Rattle.carte_book.specs.Task.{task_now}
use Rattle.carte_mark.specs.Reached.{has_changed, is_other}
use Rattle.carte_record.specs.declared.entry.Entry.{Entry}
use Rattle.carte_record.specs.Kept.{SomeKept}
use Rattle.carte_search.specs.Paths.{IsAnswer, IsFirstPath}
use Rattle.carte_sound.specs.Marks.{IsChanged, present}

abbrev pub needs_in : Option Entry → List (List ℕ)
needs_in None = []
needs_in (Some e) = e.needs

-- what the entry of a key names as its needs
abbrev pub needs_at : SomeKept → List ℕ → List (List ℕ)
needs_at K k = needs_in (K.entries k)

-- From the key each next name is a need of the one before, and the last has changed. No such path is shorter, and none as long comes
-- before it in byte order, name by name.
abbrev pub IsFirstChangedPath : SomeKept → Book → List ℕ → List (List ℕ) → Type 0
IsFirstChangedPath K b k path = IsFirstPath (needs_at K) (IsChanged K b) (k ∷ []) path

-- such a path, or none where there is none
abbrev pub IsChangedAnswer : SomeKept → Book → List ℕ → Option (List (List ℕ)) → Type 0
IsChangedAnswer K b k o = IsAnswer (needs_at K) (IsChanged K b) (k ∷ []) o

-- the name at the end of a path
abbrev pub end_of : List (List ℕ) → Option (List ℕ)
end_of path = slice_get path (length path - 1)

-- a name of this kind stands there
abbrev pub EndsIn : (List ℕ → Type 0) → List (List ℕ) → Type 0
EndsIn Is path = (k : List ℕ) × (end_of path ≡ Some k) × Is k

-- whether a name was seen with a digest that it hasn't now, or has an entry with a task that it hasn't now
abbrev pub is_changed : SomeKept → Book → List ℕ → Bool
is_changed K b k = has_changed (K.seen k) (present b k) || is_other (K.entries k) (task_now b k)

-- whether such a name was seen so
abbrev pub is_seen_changed : SomeKept → Book → Option (List ℕ) → Bool
is_seen_changed K b None = false
is_seen_changed K b (Some k) = has_changed (K.seen k) (present b k)
