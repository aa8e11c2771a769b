-- The traces and entries that a book makes true of its rules.
use Rattle.std.specs.Prelude.{ℕ, ◌≡◌, true, false, List, [], ◌∷◌, Option, Some, None, if◌then◌else◌}
use Rattle.carte_value.specs.declared.digest.Digest.{Digest}
use Rattle.carte_value.specs.declared.link.Link.{Link}
use Rattle.carte_value.specs.declared.value.Value.{Value}
use Rattle.carte_value.specs.Spelling.{digest_of}
use Rattle.carte_value.specs.Truths.{Truth}
use Rattle.carte_tree.specs.Tree.{Tree}
use Rattle.carte_book.specs.Book.{rule, Book, content, clean}
use Rattle.carte_book.specs.Needs.{needs}
use Rattle.carte_book.specs.Task.{task_digest_of, task_now}
use Rattle.carte_record.specs.declared.entry.Entry.{Entry}
use Rattle.carte_record.specs.declared.deep_trace.DeepTrace.{DeepTrace}
use Rattle.carte_record.specs.declared.trace.Trace.{Trace}
use Rattle.carte_record.specs.declared.way.Way.{Way}
use Rattle.carte_record.specs.declared.way.Way.TheVariants.{Verifying, Constructive, Deep}
use Rattle.carte_record.specs.Ways.{TraceBy}
use Rattle.carte_sound.specs.Beneath.{beneath, rules_beneath}

abbrev pub digest_or : Option Value → Digest
digest_or None = record { 0 = [] }
digest_or (Some v) = digest_of v

-- names with the digests that a function gives them
abbrev pub linked_by : (List ℕ → Digest) → List (List ℕ) → List Link
linked_by g [] = []
linked_by g (k ∷ ks) = record { name = k; digest = g k } ∷ linked_by g ks

-- those of their values
abbrev pub links_to : Truth → List (List ℕ) → List Link
links_to t ks = linked_by (λ k. digest_or (t k)) ks

-- which names a trace links
abbrev pub linked : Way → Book → List ℕ → List (List ℕ)
linked Verifying b k = needs b k
linked Constructive b k = needs b k
linked Deep b k = beneath b k

abbrev pub or_none : Option Digest → Digest
or_none None = record { 0 = [] }
or_none (Some d) = d

-- those of their tasks, of rules
abbrev pub tasks_of : Book → List (List ℕ) → List Link
tasks_of b ks = linked_by (λ k. or_none (task_now b k)) ks

-- the trace of a rule with a clean value, by its needs
abbrev pub needs_trace : Book → List ℕ → Trace
needs_trace b k = record { key = k; task = or_none (task_now b k); links = links_to (clean b) (needs b k); result = digest_or (clean b k) }

-- and by the rules and the inputs beneath it
abbrev pub deep_trace : Book → List ℕ → DeepTrace
deep_trace b k = record { key = k; tasks = tasks_of b (rules_beneath b k); links = links_to (clean b) (beneath b k); result = digest_or (clean b k) }

abbrev pub trace_of : (w : Way) → Book → List ℕ → TraceBy w
trace_of Verifying b k = needs_trace b k
trace_of Constructive b k = needs_trace b k
trace_of Deep b k = deep_trace b k

-- its task and what it needs, with the digest of its clean value
abbrev pub full_entry : Book → List ℕ → Entry
full_entry b k = record { key = k; task = or_none (task_now b k); result = digest_or (clean b k); needs = needs b k; stale = false; shallow = false }

-- the same with the inputs beneath it in place of its needs
abbrev pub shallow_entry : Book → List ℕ → Entry
shallow_entry b k = record { key = k; task = or_none (task_now b k); result = digest_or (clean b k); needs = beneath b k; stale = false; shallow = true }

-- the key is a rule of the book with a clean value, of which the trace tells
pub record IsTraceOf (w : Way) (b : Book) (k : List ℕ) (t : TraceBy w) : Type 0 where
  pub formula : Tree
  pub is_rule : content b k ≡ Some (rule formula)
  pub value : Value
  pub clean : clean b k ≡ Some value
  pub trace : t ≡ trace_of w b k

-- and of which the entry tells, stale or not
pub record IsEntryOf (b : Book) (k : List ℕ) (e : Entry) : Type 0 where
  pub formula : Tree
  pub is_rule : content b k ≡ Some (rule formula)
  pub value : Value
  pub clean : clean b k ≡ Some value
  pub key : e.key ≡ k
  pub task : e.task ≡ task_digest_of b.kind formula
  pub result : e.result ≡ digest_of value
  pub needs : e.needs ≡ (if e.shallow then beneath b k else needs b k)
