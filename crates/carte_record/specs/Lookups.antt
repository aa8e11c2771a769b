-- What a list has of a key, and traces that are equal.
use Rattle.std.specs.Prelude.{ℕ, Bool, List, [], ◌∷◌, Option, find, ◌&&◌, true, false}
use Rattle.carte_value.specs.declared.link.Link.{Link}
use Rattle.carte_name.specs.Names.{name_eq}
use Rattle.carte_table.specs.Lookups.{find_last, digest_eq}
use Rattle.carte_record.specs.declared.entry.Entry.{Entry}
use Rattle.carte_record.specs.declared.trace.Trace.{Trace}
use Rattle.carte_record.specs.declared.deep_trace.DeepTrace.{DeepTrace}

abbrev pub is_entry_of : List ℕ → Entry → Bool
is_entry_of k e = name_eq k e.key

abbrev pub is_trace_of : List ℕ → Trace → Bool
is_trace_of k t = name_eq k t.key

abbrev pub is_deep_of : List ℕ → DeepTrace → Bool
is_deep_of k t = name_eq k t.key

-- the first entry of a key, or the last
abbrev pub first_entry : List Entry → List ℕ → Option Entry
first_entry es k = find (is_entry_of k) es

abbrev pub entry_in : List Entry → List ℕ → Option Entry
entry_in es k = find_last (is_entry_of k) es

-- traces that are equal
abbrev pub links_eq : List Link → List Link → Bool
links_eq [] [] = true
links_eq [] (m ∷ ms) = false
links_eq (l ∷ ls) [] = false
links_eq (l ∷ ls) (m ∷ ms) = (name_eq l.name m.name && digest_eq l.digest m.digest) && links_eq ls ms

abbrev pub trace_eq : Trace → Trace → Bool
trace_eq s t = ((name_eq s.key t.key && digest_eq s.task t.task) && digest_eq s.result t.result) && links_eq s.links t.links

abbrev pub deep_eq : DeepTrace → DeepTrace → Bool
deep_eq s t = ((name_eq s.key t.key && digest_eq s.result t.result) && links_eq s.tasks t.tasks) && links_eq s.links t.links
