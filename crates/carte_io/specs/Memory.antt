-- Sources and sinks in memory, as their clauses see them.
use Rattle.std.specs.Prelude.{◌==◌, ℕ, List, Bool, ◌++◌, drop, length}
use Rattle.std.specs.List.{list_any}
use Rattle.carte_io.specs.Causes.{counted}

-- the bytes left, the most that a call gives, the numbers of the calls that fail, how many bytes the last call moved that passed, and how many calls and failures there were
pub record MemoryOfSource : Type 0 where
  pub left : List ℕ
  pub most : ℕ
  pub failing : List ℕ
  pub last : ℕ
  pub calls : ℕ
  pub faults : ℕ

-- the bytes taken, how many of them are handed on, the most that a call takes, and as for a source
pub record MemoryOfSink : Type 0 where
  pub taken : List ℕ
  pub handed : ℕ
  pub most : ℕ
  pub failing : List ℕ
  pub calls : ℕ
  pub faults : ℕ

-- a source of these bytes, before any call
abbrev pub holding : List ℕ → ℕ → List ℕ → MemoryOfSource
holding bytes most failing = record { left = bytes; most = most; failing = failing; last = 0; calls = 0; faults = 0 }

-- the call after so many is one of the list
abbrev pub is_failing : List ℕ → ℕ → Bool
is_failing failing calls = list_any (λ n. n == counted calls) failing

-- a call gave the first n bytes left
abbrev pub gave : ℕ → MemoryOfSource → MemoryOfSource
gave n s = record s { left = drop n s.left; last = n; calls = counted s.calls }

-- a call failed, which changes the two counts alone
abbrev pub source_failed : MemoryOfSource → MemoryOfSource
source_failed s = record s { calls = counted s.calls; faults = counted s.faults }

-- a call took these bytes
abbrev pub took : List ℕ → MemoryOfSink → MemoryOfSink
took bytes s = record s { taken = s.taken ++ bytes; calls = counted s.calls }

-- a call handed on all that was taken
abbrev pub finished : MemoryOfSink → MemoryOfSink
finished s = record s { handed = length s.taken; calls = counted s.calls }

abbrev pub sink_failed : MemoryOfSink → MemoryOfSink
sink_failed s = record s { calls = counted s.calls; faults = counted s.faults }
