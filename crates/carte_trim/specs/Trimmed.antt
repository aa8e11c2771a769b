-- What is kept, trimmed: of each key and each way the newest traces alone, and of the store what is still named.
use Rattle.std.specs.Prelude.{ℕ, ◌≡◌, ◌+◌, List, Some, length, take}
use Rattle.carte_value.specs.declared.digest.Digest.{Digest}
use Rattle.carte_value.specs.declared.value.Value.{Value}
use Rattle.carte_value.specs.Lists.{Has}
use Rattle.carte_record.specs.declared.entry.Entry.{Entry}
use Rattle.carte_record.specs.declared.way.Way.{Way}
use Rattle.carte_record.specs.declared.way.Way.TheVariants.{Verifying, Constructive, Deep}
use Rattle.carte_record.specs.Kept.{SomeKept}
use Rattle.carte_record.specs.Ways.{TraceBy, key_by, result_by}
use Rattle.carte_sound.specs.Lists.{EachOnce}

-- the digest is the result of an entry, or that of a trace
pub data IsNamed (K : SomeKept) : Digest → Type 0 where
  by_entry : (k : List ℕ) (e : Entry) → K.entries k ≡ Some e → IsNamed K e.result
  by_trace : (w : Way) (k : List ℕ) (t : TraceBy w) → Has (K.traces w k) t → IsNamed K (result_by w t)

-- L has the newest n different traces of each key and each way of K, all entries, seen inputs, marks and the chain, and the values of the store that these name
pub record HasNewest (K : SomeKept) (n : ℕ) (L : SomeKept) : Type 0 where
  pub seen : L.seen ≡ K.seen
  pub entries : L.entries ≡ K.entries
  pub traces : (w : Way) (k : List ℕ) → L.traces w k ≡ take n (K.traces w k)
  pub chain : L.chain ≡ K.chain
  pub named : (d : Digest) → IsNamed L d → L.stored d ≡ K.stored d

-- and no other value
pub record IsTrimmed (K : SomeKept) (n : ℕ) (L : SomeKept) : Type 0 where
  pub newest : HasNewest K n L
  pub only : (d : Digest) (v : Value) → L.stored d ≡ Some v → IsNamed L d × (K.stored d ≡ Some v)

-- these are the traces of one kind, each once
pub record IsListed (K : SomeKept) (w : Way) (ts : List (TraceBy w)) : Type 0 where
  pub once : EachOnce ts
  pub each : (t : TraceBy w) → Has ts t → Has (K.traces w (key_by w t)) t
  pub all : (k : List ℕ) (t : TraceBy w) → Has (K.traces w k) t → Has ts t

-- how many different traces are kept
pub record IsNumberOf (K : SomeKept) (number : ℕ) : Type 0 where
  pub lists : (w : Way) → List (TraceBy w)
  pub listed : (w : Way) → IsListed K w (lists w)
  pub sum : number ≡ length (lists Verifying) + length (lists Constructive) + length (lists Deep)
