-- What a build begins with: what is kept, with new marks, and without what is kept of names that became something else.
use Rattle.std.specs.Prelude.{ℕ, ◌≡◌, Bool, false, List, [], Option, Some, None, option_map}
use Rattle.carte_value.specs.declared.digest.Digest.{Digest}
use Rattle.carte_value.specs.Truths.{IsListOf}
use Rattle.carte_book.specs.Book.{Book}
use Rattle.carte_book.specs.Edits.{IsInput}
use Rattle.carte_book.specs.Needs.{IsRule}
use Rattle.carte_record.specs.declared.entry.Entry.{Entry}
use Rattle.carte_record.specs.declared.way.Way.{Way}
use Rattle.carte_record.specs.Folds.{is_among, with_marks, without}
use Rattle.carte_record.specs.Kept.{SomeKept, staled}
use Rattle.carte_table.specs.Lookups.{digest_eq}
use Rattle.carte_sound.specs.Marks.{IsMarked}

abbrev pub is_digest : Option Digest → Digest → Bool
is_digest None d = false
is_digest (Some c) d = digest_eq c d

-- it was seen and is no input, or has an entry and is no rule
pub data IsGone (K : SomeKept) (b : Book) (k : List ℕ) : Type 0 where
  seen : (d : Digest) → K.seen k ≡ Some d → ¬ (IsInput b k) → IsGone K b k
  entry : (e : Entry) → K.entries k ≡ Some e → ¬ (IsRule b k) → IsGone K b k

-- the keys that a build marks and the names that it drops
pub record Beginning : Type 0 where
  pub marks : List (List ℕ)
  pub gone : List (List ℕ)

-- just those to be marked and to be dropped, in name order
pub record IsBeginning (K : SomeKept) (b : Book) (x : Beginning) : Type 0 where
  pub marks : IsListOf (IsMarked K b) x.marks
  pub gone : IsListOf (IsGone K b) x.gone

-- what is kept then
abbrev pub begin : SomeKept → Beginning → SomeKept
begin K x = without x.gone (with_marks K x.marks)

-- where nothing is marked and nothing dropped
abbrev pub no_change : Beginning
no_change = record { marks = []; gone = [] }

-- Told by what a name is now: rules keep their entries, marked or not, and their traces, inputs keep what they were seen with, and nothing else is kept.
pub record IsByRole (K : SomeKept) (b : Book) (x : Beginning) (M : SomeKept) : Type 0 where
  pub entry : (k : List ℕ) → IsRule b k → M.entries k ≡ option_map (staled (is_among x.marks k)) (K.entries k)
  pub traces : (w : Way) (k : List ℕ) → IsRule b k → M.traces w k ≡ K.traces w k
  pub seen : (i : List ℕ) → IsInput b i → M.seen i ≡ K.seen i
  pub no_entry : (k : List ℕ) → ¬ (IsRule b k) → M.entries k ≡ None
  pub no_trace : (w : Way) (k : List ℕ) → ¬ (IsRule b k) → M.traces w k ≡ []
  pub not_seen : (i : List ℕ) → ¬ (IsInput b i) → M.seen i ≡ None
