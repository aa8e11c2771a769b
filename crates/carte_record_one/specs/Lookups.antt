-- What a list of version 1 has of a key.
use Rattle.std.specs.Prelude.{ℕ, Bool, List, Option, find}
use Rattle.carte_name.specs.Names.{name_eq}
use Rattle.carte_table.specs.Lookups.{find_last}
use Rattle.carte_record_one.specs.declared.entry.EntryOne.{EntryOne}

abbrev pub is_entry_one_of : List ℕ → EntryOne → Bool
is_entry_one_of k e = name_eq k e.key

-- the first entry of a key, or the last
abbrev pub first_entry_one : List EntryOne → List ℕ → Option EntryOne
first_entry_one es k = find (is_entry_one_of k) es

abbrev pub entry_one_in : List EntryOne → List ℕ → Option EntryOne
entry_one_in es k = find_last (is_entry_one_of k) es
