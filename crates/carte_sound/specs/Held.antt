-- Which keys a rebuilder finishes without a run.
use Rattle.std.specs.Prelude.{ℕ, ◌≡◌, Bool, true, false, ◌&&◌, List, [], ◌∷◌, Option, Some, option_map}
use Rattle.carte_value.specs.declared.digest.Digest.{Digest}
use Rattle.carte_value.specs.declared.link.Link.{Link}
use Rattle.carte_value.specs.Spelling.{digest_of}
use Rattle.carte_book.specs.Book.{Book, clean}
use Rattle.carte_book.specs.Task.{task_now}
use Rattle.carte_record.specs.Kept.{SomeKept}
use Rattle.carte_record.specs.Ways.{TraceBy, links_by}
use Rattle.carte_record.specs.declared.entry.Entry.{Entry}
use Rattle.carte_record.specs.declared.way.Way.{Way}
use Rattle.carte_record.specs.declared.way.Way.TheVariants.{Verifying, Constructive, Deep}
use Rattle.carte_value.specs.Lists.{Has}
use Rattle.carte_sound.specs.Begun.{is_digest}
use Rattle.carte_sound.specs.Marks.{present, IsFresh}

-- how a build tells what has changed: by the marks of entries, or by traces of one kind
pub data How : Type 0 where
  dirty : How
  tracing : Way → How

-- each name is linked with the digest that it has now
abbrev pub AreLinks : (List ℕ → Option Digest) → List Link → Type 0
AreLinks now [] = Unit {0}
AreLinks now (l ∷ ls) = (now l.name ≡ Some l.digest) × AreLinks now ls

-- the test of it
abbrev pub are_so : (List ℕ → Option Digest) → List Link → Bool
are_so now [] = true
are_so now (l ∷ ls) = is_digest (now l.name) l.digest && are_so now ls

abbrev pub clean_digest : Book → List ℕ → Option Digest
clean_digest b k = option_map digest_of (clean b k)

-- that of its clean value, and under deep traces that of an input alone
abbrev pub digest_now : Way → Book → List ℕ → Option Digest
digest_now Verifying b = clean_digest b
digest_now Constructive b = clean_digest b
digest_now Deep b = present b

-- a trace of needs has the key's task, and a deep one those of the rules that it names
abbrev pub IsTasked : (w : Way) → Book → List ℕ → TraceBy w → Type 0
IsTasked Verifying b k t = task_now b k ≡ Some t.task
IsTasked Constructive b k t = task_now b k ≡ Some t.task
IsTasked Deep b k t = AreLinks (task_now b) t.tasks

-- what must hold of a trace besides its tasks and its links: a verifying one tells of what the key has at last
abbrev pub IsTrusted : (w : Way) → SomeKept → List ℕ → TraceBy w → Type 0
IsTrusted Verifying K k t = (e : Entry) × (K.entries k ≡ Some e) × (e.result ≡ t.result)
IsTrusted Constructive K k t = Unit {0}
IsTrusted Deep K k t = Unit {0}

pub record IsHeldBy (w : Way) (K : SomeKept) (b : Book) (k : List ℕ) (t : TraceBy w) : Type 0 where
  pub kept : Has (K.traces w k) t
  pub task : IsTasked w b k t
  pub links : AreLinks (digest_now w b) (links_by w t)
  pub trusted : IsTrusted w K k t

-- the key's old result may be given, by a fresh entry or by a trace
abbrev pub IsHeld : How → SomeKept → Book → List ℕ → Type 0
IsHeld dirty K b k = IsFresh K k
IsHeld (tracing w) K b k = (t : TraceBy w) × IsHeldBy w K b k t

-- whether the needs of a held key are looked into
abbrev pub looks_into_held : How → Bool
looks_into_held dirty = false
looks_into_held (tracing Verifying) = true
looks_into_held (tracing Constructive) = true
looks_into_held (tracing Deep) = false

-- whether the rules and the inputs beneath a key are gathered
abbrev pub gathers : How → Bool
gathers dirty = false
gathers (tracing Verifying) = false
gathers (tracing Constructive) = false
gathers (tracing Deep) = true

-- the key's needs are looked into
abbrev pub IsFollowed : How → SomeKept → Book → List ℕ → Type 0
IsFollowed h K b k = IsHeld h K b k → looks_into_held h ≡ true
