-- Which names have changed, and which keys lead to one of these.
use Rattle.std.specs.Prelude.{ℕ, ◌≡◌, ◌⊎◌, Bool, false, not, List, Option, Some, None, map}
use Rattle.carte_value.specs.declared.digest.Digest.{Digest}
use Rattle.carte_value.specs.declared.link.Link.{Link}
use Rattle.carte_value.specs.Truths.{Among}
use Rattle.carte_book.specs.declared.book.Book.{Book as CodeBook}
use Rattle.carte_book.specs.Book.{Book}
use Rattle.carte_book.specs.Places.{task_at}
use Rattle.carte_record.specs.Kept.{SomeKept}
use Rattle.carte_record.specs.declared.entry.Entry.{Entry}
use Rattle.carte_book.specs.Task.{task_now}
use Rattle.carte_sound.specs.Begun.{is_digest}
use Rattle.carte_sound.specs.Marks.{Leads, present, IsChanged}

-- a digest that was seen, and isn't the present one
abbrev pub has_changed : Option Digest → Option Digest → Bool
has_changed None p = false
has_changed (Some d) p = not (is_digest p d)

-- an entry whose task isn't this one
abbrev pub is_other : Option Entry → Option Digest → Bool
is_other None t = false
is_other (Some e) t = not (is_digest t e.task)

-- the digests of the tasks of what stands at these places of a book
abbrev pub tasks_at : CodeBook → List ℕ → List (Option Digest)
tasks_at b ps = map (task_at b) ps

-- it was seen with a digest that it hasn't now
pub record IsSeenChanged (K : SomeKept) (b : Book) (k : List ℕ) : Type 0 where
  pub digest : Digest
  pub seen : K.seen k ≡ Some digest
  pub differs : ¬ (present b k ≡ Some digest)

-- its entry has a task that it hasn't now
pub record IsOther (K : SomeKept) (b : Book) (k : List ℕ) : Type 0 where
  pub entry : Entry
  pub kept : K.entries k ≡ Some entry
  pub differs : ¬ (task_now b k ≡ Some entry.task)

-- exactly the changed names
pub record AreChanged (K : SomeKept) (b : Book) (ns : List (List ℕ)) : Type 0 where
  pub only : (q : List ℕ) → Among ns q → IsChanged K b q
  pub each : (q : List ℕ) → IsChanged K b q → Among ns q

-- exactly those that were seen so
pub record AreSeenChanged (K : SomeKept) (b : Book) (ns : List (List ℕ)) : Type 0 where
  pub only : (q : List ℕ) → Among ns q → IsSeenChanged K b q
  pub each : (q : List ℕ) → IsSeenChanged K b q → Among ns q

-- besides what was there at most the name of this link, and that where it has changed and this is what it was seen with
pub record AddsChanged (K : SomeKept) (b : Book) (l : Link) (old new : List (List ℕ)) : Type 0 where
  pub only : (q : List ℕ) → Among new q → Among old q ⊎ IsSeenChanged K b q
  pub stays : (q : List ℕ) → Among old q → Among new q
  pub there : K.seen l.name ≡ Some l.digest → IsSeenChanged K b l.name → Among new l.name

-- besides what was there at most the key of this entry, and that where its task is another and this is what it has
pub record AddsOther (K : SomeKept) (b : Book) (e : Entry) (old new : List (List ℕ)) : Type 0 where
  pub only : (q : List ℕ) → Among new q → Among old q ⊎ IsOther K b q
  pub stays : (q : List ℕ) → Among old q → Among new q
  pub there : K.entries e.key ≡ Some e → IsOther K b e.key → Among new e.key

-- besides what was there exactly the keys whose entries have other tasks
pub record PutsOthers (K : SomeKept) (b : Book) (old new : List (List ℕ)) : Type 0 where
  pub only : (q : List ℕ) → Among new q → Among old q ⊎ IsOther K b q
  pub stays : (q : List ℕ) → Among old q → Among new q
  pub each : (q : List ℕ) → IsOther K b q → Among new q

-- a key that leads to one of these names
pub record LeadsTo (K : SomeKept) (names : List (List ℕ)) (k : List ℕ) : Type 0 where
  pub name : List ℕ
  pub leads : Leads K k name
  pub among : Among names name

-- what was there, and besides only keys that lead to it
pub record Spreads (K : SomeKept) (old new : List (List ℕ)) : Type 0 where
  pub only : (k : List ℕ) → Among new k → Among old k ⊎ LeadsTo K old k
  pub stays : (k : List ℕ) → Among old k → Among new k

-- one of the needs is there
pub record Meets (needs names : List (List ℕ)) : Type 0 where
  pub name : List ℕ
  pub needed : Among needs name
  pub among : Among names name

-- a key whose entry needs one of these names
pub record IsUser (K : SomeKept) (names : List (List ℕ)) (k : List ℕ) : Type 0 where
  pub entry : Entry
  pub kept : K.entries k ≡ Some entry
  pub meets : Meets entry.needs names

-- the key is there where its entry needs what is there
abbrev pub IsClosedAt : SomeKept → List (List ℕ) → List ℕ → Type 0
IsClosedAt K names k = (e : Entry) → K.entries k ≡ Some e → Meets e.needs names → Among names k

abbrev pub IsClosed : SomeKept → List (List ℕ) → Type 0
IsClosed K names = (k : List ℕ) → IsClosedAt K names k

-- At most keys that lead there were put there; where the answer is no, none was.
pub record PutsMore (K : SomeKept) (old new : List (List ℕ)) (more : Bool) : Type 0 where
  pub spreads : Spreads K old new
  pub same : more ≡ false → new ≡ old
