-- Soundness: all that is kept was true of a book that stood.
use Rattle.std.specs.Prelude.{ℕ, ◌≡◌, ◌⊎◌, true, List, Some}
use Rattle.carte_value.specs.declared.digest.Digest.{Digest}
use Rattle.carte_value.specs.declared.value.Value.{Value}
use Rattle.carte_value.specs.Spelling.{digest_of}
use Rattle.carte_value.specs.Truths.{Among, NoneTwice}
use Rattle.carte_book.specs.Book.{input, Book, content, clean}
use Rattle.carte_book.specs.Needs.{IsRule}
use Rattle.carte_book.specs.Task.{task_now}
use Rattle.carte_record.specs.Kept.{SomeKept, is_fresh}
use Rattle.carte_record.specs.declared.entry.Entry.{Entry}
use Rattle.carte_record.specs.Ways.{TraceBy, result_by}
use Rattle.carte_record.specs.declared.way.Way.{Way}
use Rattle.carte_value.specs.Lists.{Has}
use Rattle.carte_sound.specs.Marks.{IsFresh, Leads}
use Rattle.carte_sound.specs.True.{IsTraceOf, IsEntryOf}

-- an input that was seen with the digest of its value
pub record IsSeen (K : SomeKept) (b : Book) (i : List ℕ) : Type 0 where
  pub value : Value
  pub is_input : content b i ≡ Some (input value)
  pub seen : K.seen i ≡ Some (digest_of value)

-- a rule that has an entry with the digest of its task
pub record IsRuled (K : SomeKept) (b : Book) (i : List ℕ) : Type 0 where
  pub entry : Entry
  pub kept : K.entries i ≡ Some entry
  pub task : task_now b i ≡ Some entry.task

-- each name that the key leads to is a seen input of the book or a rule of it with an entry of its task, and each rule that its entry needs has a fresh entry
pub record IsFreshIn (K : SomeKept) (b : Book) (k : List ℕ) (e : Entry) : Type 0 where
  pub names : (i : List ℕ) → Leads K k i → IsSeen K b i ⊎ IsRuled K b i
  pub rules : (j : List ℕ) → Among e.needs j → IsRule b j → IsFresh K j

pub record IsEntryOfSome (K : SomeKept) (H : List Book) (k : List ℕ) (e : Entry) : Type 0 where
  pub book : Book
  pub stood : Has H book
  pub entry : IsEntryOf book k e
  pub fresh : is_fresh e ≡ true → IsFreshIn K book k e

pub record IsTraceOfSome (K : SomeKept) (H : List Book) (w : Way) (k : List ℕ) (t : TraceBy w) : Type 0 where
  pub book : Book
  pub stood : Has H book
  pub trace : IsTraceOf w book k t
  pub entry : Entry
  pub kept : K.entries k ≡ Some entry

-- the clean value of a rule in a book of the history
pub record IsCleanOfSome (H : List Book) (v : Value) : Type 0 where
  pub book : Book
  pub stood : Has H book
  pub name : List ℕ
  pub is_rule : IsRule book name
  pub clean : clean book name ≡ Some v

abbrev pub IsStored : SomeKept → Digest → Type 0
IsStored K d = (v : Value) × (K.stored d ≡ Some v)

pub record IsSound (K : SomeKept) (H : List Book) : Type 0 where
  pub traces : (w : Way) (k : List ℕ) (t : TraceBy w) → Has (K.traces w k) t → IsTraceOfSome K H w k t
  pub entries : (k : List ℕ) (e : Entry) → K.entries k ≡ Some e → IsEntryOfSome K H k e
  pub stored : (d : Digest) (v : Value) → K.stored d ≡ Some v → (digest_of v ≡ d) × IsCleanOfSome H v
  pub entry_stored : (k : List ℕ) (e : Entry) → K.entries k ≡ Some e → IsStored K e.result
  pub trace_stored : (w : Way) (k : List ℕ) (t : TraceBy w) → Has (K.traces w k) t → IsStored K (result_by w t)
  pub chain : NoneTwice K.chain
  -- no name is both seen and the key of an entry
  pub apart : (i : List ℕ) (d : Digest) (e : Entry) → K.seen i ≡ Some d → ¬ (K.entries i ≡ Some e)
