-- The traces and entries of version 1 that a book makes true of its rules.
use Rattle.std.specs.Prelude.{ℕ, ◌≡◌, List, Some, if◌then◌else◌}
use Rattle.carte_value.specs.declared.value.Value.{Value}
use Rattle.carte_value.specs.Spelling.{digest_of}
use Rattle.carte_tree.specs.Tree.{Tree}
use Rattle.carte_book.specs.Book.{rule, Book, content, clean}
use Rattle.carte_book.specs.Needs.{needs}
use Rattle.carte_record.specs.declared.way.Way.{Way}
use Rattle.carte_record_one.specs.declared.entry.EntryOne.{EntryOne}
use Rattle.carte_record_one.specs.declared.trace.TraceOne.{TraceOne}
use Rattle.carte_sound.specs.Beneath.{beneath}
use Rattle.carte_sound.specs.True.{digest_or, links_to, linked}

-- the trace of a rule with a clean value
abbrev pub trace_of_one : Way → Book → List ℕ → TraceOne
trace_of_one w b k = record { key = k; links = links_to (clean b) (linked w b k); result = digest_or (clean b k) }

-- the key is a rule of the book with a clean value, of which the trace tells
pub record IsTraceOfOne (w : Way) (b : Book) (k : List ℕ) (t : TraceOne) : Type 0 where
  pub formula : Tree
  pub is_rule : content b k ≡ Some (rule formula)
  pub value : Value
  pub clean : clean b k ≡ Some value
  pub trace : t ≡ trace_of_one w b k

-- and of which the entry tells, stale or not
pub record IsEntryOfOne (b : Book) (k : List ℕ) (e : EntryOne) : Type 0 where
  pub formula : Tree
  pub is_rule : content b k ≡ Some (rule formula)
  pub value : Value
  pub clean : clean b k ≡ Some value
  pub key : e.key ≡ k
  pub result : e.result ≡ digest_of value
  pub needs : e.needs ≡ (if e.shallow then beneath b k else needs b k)
