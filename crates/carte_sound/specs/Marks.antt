-- Which keys a changed name makes stale.
use Rattle.std.specs.Prelude.{ℕ, ◌≡◌, ◌⊎◌, true, false, List, Option, Some, None}
use Rattle.carte_value.specs.declared.digest.Digest.{Digest}
use Rattle.carte_value.specs.Spelling.{digest_of}
use Rattle.carte_value.specs.Truths.{Among}
use Rattle.carte_book.specs.Book.{Item, input, rule, Book, content}
use Rattle.carte_book.specs.Task.{task_now}
use Rattle.carte_record.specs.Kept.{SomeKept, is_fresh}
use Rattle.carte_record.specs.declared.entry.Entry.{Entry}

-- the key has a fresh entry
pub record IsFresh (K : SomeKept) (k : List ℕ) : Type 0 where
  pub entry : Entry
  pub kept : K.entries k ≡ Some entry
  pub fresh : is_fresh entry ≡ true

-- a key leads to what its entry needs, and to all that those names lead to
pub data Leads (K : SomeKept) : List ℕ → List ℕ → Type 0 where
  need : {k j : List ℕ} (e : Entry) → K.entries k ≡ Some e → Among e.needs j → Leads K k j
  on : {k i j : List ℕ} (e : Entry) → K.entries k ≡ Some e → Among e.needs i → Leads K i j → Leads K k j

abbrev pub digest_in : Option Item → Option Digest
digest_in None = None
digest_in (Some (input v)) = Some (digest_of v)
digest_in (Some (rule e)) = None

-- the digest of the value that an input has now
abbrev pub present : Book → List ℕ → Option Digest
present b k = digest_in (content b k)

-- it was seen with a digest that it hasn't now, or its entry has a task that it hasn't now
pub data IsChanged (K : SomeKept) (b : Book) (k : List ℕ) : Type 0 where
  seen : (d : Digest) → K.seen k ≡ Some d → ¬ (present b k ≡ Some d) → IsChanged K b k
  task : (e : Entry) → K.entries k ≡ Some e → ¬ (task_now b k ≡ Some e.task) → IsChanged K b k

-- the name itself, or one that it leads to
abbrev pub Comes : SomeKept → List ℕ → List ℕ → Type 0
Comes K k j = (j ≡ k) ⊎ Leads K k j

-- a key with an entry that isn't stale yet, that is changed or leads to a changed name
pub record IsMarked (K : SomeKept) (b : Book) (k : List ℕ) : Type 0 where
  pub entry : Entry
  pub kept : K.entries k ≡ Some entry
  pub unmarked : entry.stale ≡ false
  pub name : List ℕ
  pub leads : Comes K k name
  pub changed : IsChanged K b name
