-- Entries that are marked where they stand, and marks that are taken off again.
use Rattle.std.specs.Prelude.{ℕ, ◌≡◌, Bool, true, false, List, Some}
use Rattle.carte_value.specs.Truths.{Among, NoneTwice}
use Rattle.carte_record.specs.declared.entry.Entry.{Entry}
use Rattle.carte_record.specs.declared.kept.Kept.{Kept}
use Rattle.carte_table.specs.Changes.{all_changed}
use Rattle.carte_record.specs.Lookups.{first_entry, is_entry_of}

abbrev pub marked_as : Bool → Entry → Entry
marked_as b e = record e { stale = b }

-- the first entry of each of these keys, one after the other, with the mark or without
abbrev pub all_marked : Bool → List Entry → List (List ℕ) → List Entry
all_marked b = all_changed is_entry_of (marked_as b)

-- what is kept with these marks, list for list
abbrev pub lists_marked : Kept → List (List ℕ) → Kept
lists_marked K ks = record K { entries = all_marked true K.entries ks }

-- each key is named once, and its first entry, where it has one, isn't stale
pub record CanBeMarked (K : Kept) (ks : List (List ℕ)) : Type 0 where
  pub once : NoneTwice ks
  pub unmarked : (k : List ℕ) (e : Entry) → Among ks k → first_entry K.entries k ≡ Some e → e.stale ≡ false
