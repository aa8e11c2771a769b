-- What is kept, as functions: two of them that are alike are equal.
use Rattle.std.specs.Prelude.{ℕ, Bool, not, ◌&&◌, ◌||◌, List, [], ◌∷◌, Option, Some, None, filter, if◌then◌else◌}
use Rattle.carte_value.specs.declared.digest.Digest.{Digest}
use Rattle.carte_value.specs.declared.value.Value.{Value}
use Rattle.carte_name.specs.Names.{name_eq}
use Rattle.carte_record.specs.declared.entry.Entry.{Entry}
use Rattle.carte_record.specs.declared.way.Way.{Way}
use Rattle.carte_record.specs.declared.way.Way.TheVariants.{Verifying, Constructive, Deep}
use Rattle.carte_record.specs.declared.kept.Kept.{Kept}
use Rattle.carte_table.specs.Lookups.{first_link, first_value}
use Rattle.carte_record.specs.Lookups.{first_entry}
use Rattle.carte_record.specs.Ways.{TraceBy, key_by, eq_by}

pub record SomeKept : Type 0 where
  -- the digest that an input was seen with
  pub seen : List ℕ → Option Digest
  pub entries : List ℕ → Option Entry
  -- of each kind and each key, newest first, each once
  pub traces : (w : Way) → List ℕ → List (TraceBy w)
  pub chain : List (List ℕ)
  -- the first value of a digest
  pub stored : Digest → Option Value

abbrev pub nothing_kept : SomeKept
nothing_kept = record { seen = λ k. None; entries = λ k. None; traces = λ w k. []; chain = []; stored = λ d. None }

-- one item more, that is then the newest
abbrev pub newest : {A : Type 0} → (A → A → Bool) → A → List A → List A
newest alike x xs = x ∷ filter (λ y. not (alike y x)) xs

-- the items of a key, after those of a list that are of this key
abbrev pub newest_in : {A : Type 0} → (A → List ℕ) → (A → A → Bool) → List ℕ → List A → List A → List A
newest_in key alike k [] old = old
newest_in key alike k (x ∷ xs) old = newest_in key alike k xs (if name_eq k (key x) then newest alike x old else old)

-- the traces of a key, after those of a list that are of this key
abbrev pub traces_in : (w : Way) → List ℕ → List (TraceBy w) → List (TraceBy w) → List (TraceBy w)
traces_in w = newest_in (key_by w) (eq_by w)

-- the list of traces of one kind
abbrev pub kept_traces : (w : Way) → Kept → List (TraceBy w)
kept_traces Verifying K = K.verifying
kept_traces Constructive K = K.constructive
kept_traces Deep K = K.deep

abbrev pub kept_view : Kept → SomeKept
kept_view K = record {
  seen = first_link K.seen;
  entries = first_entry K.entries;
  traces = λ w k. traces_in w k (kept_traces w K) [];
  chain = K.chain;
  stored = first_value K.values;
}

-- neither stale nor shallow
abbrev pub is_fresh : Entry → Bool
is_fresh e = not e.stale && not e.shallow

-- a function with one answer more
abbrev pub put_at : {A : Type 0} → (List ℕ → Option A) → List ℕ → A → List ℕ → Option A
put_at f k x q = if name_eq q k then Some x else f q

-- the entry, marked stale where the test says so
abbrev pub staled : Bool → Entry → Entry
staled b e = record e { stale = b || e.stale }
