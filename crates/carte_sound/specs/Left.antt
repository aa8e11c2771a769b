-- What a build leaves of what it began with.
use Rattle.std.specs.Prelude.{ℕ, Bool, true, false, not, ◌&&◌, List, [], ◌∷◌, Option, Some, None, is_some, if◌then◌else◌}
use Rattle.carte_value.specs.declared.digest.Digest.{Digest}
use Rattle.carte_value.specs.declared.value.Value.{Value}
use Rattle.carte_name.specs.Names.{name_eq}
use Rattle.carte_book.specs.Book.{Book, clean}
use Rattle.carte_record.specs.Folds.{is_among}
use Rattle.carte_record.specs.Kept.{SomeKept, put_at, newest, is_fresh}
use Rattle.carte_table.specs.Lookups.{digest_eq}
use Rattle.carte_record.specs.declared.entry.Entry.{Entry}
use Rattle.carte_record.specs.declared.way.Way.{Way}
use Rattle.carte_record.specs.declared.way.Way.TheVariants.{Verifying, Constructive, Deep}
use Rattle.carte_record.specs.Ways.{eq_by}
use Rattle.carte_sound.specs.Marks.{present}
use Rattle.carte_sound.specs.True.{digest_or, trace_of, full_entry, shallow_entry}
use Rattle.carte_sound.specs.Held.{How, dirty, tracing}

abbrev pub fresh_or : Option Entry → Entry → Entry
fresh_or None new = new
fresh_or (Some e) new = if is_fresh e then e else new

-- the entry of a finished key: the full one, and under deep traces what is fresh or else the shallow one
abbrev pub entry_left : How → SomeKept → Book → List ℕ → Entry
entry_left dirty K b k = full_entry b k
entry_left (tracing Verifying) K b k = full_entry b k
entry_left (tracing Constructive) K b k = full_entry b k
entry_left (tracing Deep) K b k = fresh_or (K.entries k) (shallow_entry b k)

abbrev pub names_eq : List (List ℕ) → List (List ℕ) → Bool
names_eq [] [] = true
names_eq [] (k ∷ ks) = false
names_eq (j ∷ js) [] = false
names_eq (j ∷ js) (k ∷ ks) = name_eq j k && names_eq js ks

abbrev pub bool_eq : Bool → Bool → Bool
bool_eq true c = c
bool_eq false c = not c

abbrev pub entry_eq : Entry → Entry → Bool
entry_eq e f = ((name_eq e.key f.key && digest_eq e.task f.task) && digest_eq e.result f.result) && (names_eq e.needs f.needs && (bool_eq e.stale f.stale && bool_eq e.shallow f.shallow))

-- whether the entry is kept as it is, so that it isn't written
abbrev pub is_kept : Option Entry → Entry → Bool
is_kept None f = false
is_kept (Some e) f = entry_eq e f

-- the inputs among these names are seen with their present digests
abbrev pub seen_left : (List ℕ → Option Digest) → Book → List (List ℕ) → List ℕ → Option Digest
seen_left seen b ks q = if is_among ks q && is_some (present b q) then present b q else seen q

abbrev pub is_way : How → Way → Bool
is_way (tracing Verifying) Verifying = true
is_way (tracing Constructive) Constructive = true
is_way (tracing Deep) Deep = true
is_way h w = false

abbrev pub or_first : Option Value → Option Value → Option Value
or_first None o = o
or_first (Some v) o = Some v

-- one finished key more, that ran or was held: its entry, where that is written the inputs that it names, and if it ran its trace and its value
abbrev pub add : How → Book → SomeKept → List ℕ → Bool → SomeKept
add h b K k ran = record {
  seen = λ q. if is_kept (K.entries k) (entry_left h K b k) then K.seen q else seen_left K.seen b (entry_left h K b k).needs q;
  entries = put_at K.entries k (entry_left h K b k);
  traces = λ w q. if (ran && is_way h w) && name_eq q k then newest (eq_by w) (trace_of w b k) (K.traces w q) else K.traces w q;
  chain = K.chain;
  stored = λ d. if ran && digest_eq d (digest_or (clean b k)) then or_first (K.stored d) (clean b k) else K.stored d;
}

-- finished keys, each with whether it ran
abbrev pub Finishes : Type 0
Finishes = List (List ℕ × Bool)

abbrev pub keys_of : Finishes → List (List ℕ)
keys_of [] = []
keys_of (f ∷ fs) = f.0 ∷ keys_of fs

abbrev pub add_all : How → Book → SomeKept → Finishes → SomeKept
add_all h b K [] = K
add_all h b K (f ∷ fs) = add_all h b (add h b K f.0 f.1) fs

-- what is left of what a build begins with, by its finished keys in their order and the new chain
abbrev pub left : How → Book → SomeKept → Finishes → List (List ℕ) → SomeKept
left h b K fs chain = record (add_all h b K fs) { chain = chain }
