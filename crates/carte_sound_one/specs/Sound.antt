-- Soundness in version 1: all that is kept was true of a book that stood, with the rules whose digest is kept.
use Rattle.std.specs.Prelude.{ℕ, ◌≡◌, ◌⊎◌, true, List, [], Some, None}
use Rattle.carte_value.specs.declared.digest.Digest.{Digest}
use Rattle.carte_value.specs.declared.value.Value.{Value}
use Rattle.carte_value.specs.Lists.{Has}
use Rattle.carte_value.specs.Spelling.{digest_of}
use Rattle.carte_value.specs.Truths.{Among, NoneTwice}
use Rattle.carte_book.specs.Book.{input, Book, content}
use Rattle.carte_book.specs.Digest.{rules_digest_of}
use Rattle.carte_book.specs.Needs.{IsRule}
use Rattle.carte_record.specs.declared.way.Way.{Way}
use Rattle.carte_record_one.specs.Kept.{SomeKeptOne, is_fresh_one}
use Rattle.carte_record_one.specs.declared.entry.EntryOne.{EntryOne}
use Rattle.carte_record_one.specs.declared.trace.TraceOne.{TraceOne}
use Rattle.carte_sound.specs.Sound.{IsCleanOfSome}
use Rattle.carte_sound_one.specs.Marks.{IsFreshOne, LeadsOne}
use Rattle.carte_sound_one.specs.True.{IsTraceOfOne, IsEntryOfOne}

-- nothing kept, and no rules
abbrev pub nothing_kept_one : SomeKeptOne
nothing_kept_one = record { rules = None; seen = λ k. None; entries = λ k. None; traces = λ w k. []; chain = []; stored = λ d. None }

-- a book of the history, with the kept rules
pub record StoodOne (H : List Book) (K : SomeKeptOne) (b : Book) : Type 0 where
  pub stood : Has H b
  pub rules : K.rules ≡ Some (rules_digest_of b)

-- an input that was seen with the digest of its value
pub record IsSeenOne (K : SomeKeptOne) (b : Book) (i : List ℕ) : Type 0 where
  pub value : Value
  pub is_input : content b i ≡ Some (input value)
  pub seen : K.seen i ≡ Some (digest_of value)

-- each name that the key leads to is a seen input of the book or one of its rules, and each rule that its entry needs has a fresh entry
pub record IsFreshInOne (K : SomeKeptOne) (b : Book) (k : List ℕ) (e : EntryOne) : Type 0 where
  pub names : (i : List ℕ) → LeadsOne K k i → IsSeenOne K b i ⊎ IsRule b i
  pub rules : (j : List ℕ) → Among e.needs j → IsRule b j → IsFreshOne K j

pub record IsEntryOfSomeOne (K : SomeKeptOne) (H : List Book) (k : List ℕ) (e : EntryOne) : Type 0 where
  pub book : Book
  pub stood : StoodOne H K book
  pub entry : IsEntryOfOne book k e
  pub fresh : is_fresh_one e ≡ true → IsFreshInOne K book k e

pub record IsTraceOfSomeOne (K : SomeKeptOne) (H : List Book) (w : Way) (k : List ℕ) (t : TraceOne) : Type 0 where
  pub book : Book
  pub stood : StoodOne H K book
  pub trace : IsTraceOfOne w book k t
  pub entry : EntryOne
  pub kept : K.entries k ≡ Some entry

abbrev pub IsStoredOne : SomeKeptOne → Digest → Type 0
IsStoredOne K d = (v : Value) × (K.stored d ≡ Some v)

-- a name that was seen is an input of a book that stood
pub record IsSeenInputOne (K : SomeKeptOne) (H : List Book) (i : List ℕ) : Type 0 where
  pub book : Book
  pub stood : StoodOne H K book
  pub value : Value
  pub is_input : content book i ≡ Some (input value)

pub record IsSoundOne (K : SomeKeptOne) (H : List Book) : Type 0 where
  pub nothing : K.rules ≡ None → K ≡ nothing_kept_one
  pub traces : (w : Way) (k : List ℕ) (t : TraceOne) → Has (K.traces w k) t → IsTraceOfSomeOne K H w k t
  pub entries : (k : List ℕ) (e : EntryOne) → K.entries k ≡ Some e → IsEntryOfSomeOne K H k e
  pub stored : (d : Digest) (v : Value) → K.stored d ≡ Some v → (digest_of v ≡ d) × IsCleanOfSome H v
  pub entry_stored : (k : List ℕ) (e : EntryOne) → K.entries k ≡ Some e → IsStoredOne K e.result
  pub trace_stored : (w : Way) (k : List ℕ) (t : TraceOne) → Has (K.traces w k) t → IsStoredOne K t.result
  pub chain : NoneTwice K.chain
  pub seen : (i : List ℕ) (d : Digest) → K.seen i ≡ Some d → IsSeenInputOne K H i
