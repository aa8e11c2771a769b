-- What is known between two builds.
use Rattle.std.specs.Prelude.{ℕ, ◌≡◌, Bool, true, List, Option, Some, None}
use Rattle.std.specs.List.{list_any}
use Rattle.carte_name.specs.Names.{name_eq}
use Rattle.carte_value.specs.declared.link.Link.{Link}
use Rattle.carte_value.specs.Truths.{Among}
use Rattle.carte_book.specs.Book.{Book, content}
use Rattle.carte_table.specs.Lookups.{link_in}
use Rattle.carte_record.specs.declared.batch.Batch.{Batch}
use Rattle.carte_record.specs.declared.entry.Entry.{Entry}
use Rattle.carte_record.specs.Kept.{SomeKept}
use Rattle.carte_record.specs.Lookups.{entry_in}
use Rattle.carte_sound.specs.Marks.{IsChanged}
use Rattle.carte_mark.specs.declared.watch.Watch.{Watch}
use Rattle.carte_mark.specs.Tables.{HasUsers, NeedsIn, Users, users_by}

-- the suspected names, and of each name the keys of the table
abbrev pub suspects_in : Watch → List (List ℕ)
suspects_in w = w.suspects

abbrev pub users_in : Watch → Users
users_in w = users_by w.users

-- the name is in the list, as a test says it
abbrev pub is_in : List (List ℕ) → List ℕ → Bool
is_in ks k = list_any (name_eq k) ks

-- Each name that has changed is suspected, and each key is in the table for what its entry needs.
abbrev pub WatchesBy : SomeKept → Book → List (List ℕ) → Users → Type 0
WatchesBy K b ks d = ((q : List ℕ) → IsChanged K b q → is_in ks q ≡ true) × ((q k : List ℕ) → NeedsIn K k q → is_in (d q) k ≡ true)

abbrev pub Watches : SomeKept → Book → Watch → Type 0
Watches K b w = WatchesBy K b (suspects_in w) (users_in w)

-- where there is a watch
abbrev pub IsWatched : SomeKept → Book → Option Watch → Type 0
IsWatched K b o = (w : Watch) → o ≡ Some w → Watches K b w

-- books that differ at this name at most
pub record SameBut (n : List ℕ) (b c : Book) : Type 0 where
  pub kind : c.kind ≡ b.kind
  pub rest : (q : List ℕ) → ¬ (q ≡ n) → content c q ≡ content b q

-- nothing is forgotten
pub record Grows (ks : List (List ℕ)) (d : Users) (js : List (List ℕ)) (e : Users) : Type 0 where
  pub suspects : (q : List ℕ) → Among ks q → Among js q
  pub users : (q k : List ℕ) → Among (d q) k → Among (e q) k

-- the entry that is kept of its key has the same needs
abbrev pub NeedsSame : SomeKept → Entry → Type 0
NeedsSame K e = (old : Entry) × (K.entries e.key ≡ Some old) × (old.needs ≡ e.needs)

-- the key is suspected, and in the table for what the entry needs
pub record KnowsEntry (ks : List (List ℕ)) (d : Users) (e : Entry) : Type 0 where
  pub key : Among ks e.key
  pub users : (q : List ℕ) → Among e.needs q → Among (d q) e.key

-- so for each that a list has of its key
abbrev pub KnowsEntries : List (List ℕ) → Users → List Entry → Type 0
KnowsEntries ks d es = (k : List ℕ) (e : Entry) → entry_in es k ≡ Some e → (k ≡ e.key) × KnowsEntry ks d e

-- and for the names of links
abbrev pub KnowsSeen : List (List ℕ) → List Link → Type 0
KnowsSeen ks ls = (k : List ℕ) → ¬ (link_in ls k ≡ None) → Among ks k

-- a batch is known
pub record KnowsBatch (ks : List (List ℕ)) (d : Users) (B : Batch) : Type 0 where
  pub seen : KnowsSeen ks B.seen
  pub entries : KnowsEntries ks d B.entries

-- it learns of an entry, of those of a list, of links and of a batch, where it has what is kept
abbrev pub LearnsEntry : SomeKept → Entry → Watch → Watch → Type 0
LearnsEntry K e v w = Grows (suspects_in v) (users_in v) (suspects_in w) (users_in w) × (HasUsers K (users_in v) → KnowsEntry (suspects_in w) (users_in w) e)

abbrev pub LearnsEntries : SomeKept → List Entry → Watch → Watch → Type 0
LearnsEntries K es v w = Grows (suspects_in v) (users_in v) (suspects_in w) (users_in w) × (HasUsers K (users_in v) → KnowsEntries (suspects_in w) (users_in w) es)

abbrev pub LearnsSeen : List Link → Watch → Watch → Type 0
LearnsSeen ls v w = Grows (suspects_in v) (users_in v) (suspects_in w) (users_in w) × KnowsSeen (suspects_in w) ls

abbrev pub Learns : SomeKept → Batch → Watch → Watch → Type 0
Learns K B v w = Grows (suspects_in v) (users_in v) (suspects_in w) (users_in w) × (HasUsers K (users_in v) → KnowsBatch (suspects_in w) (users_in w) B)
