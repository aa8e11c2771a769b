-- What batches make of what is kept.
use Rattle.std.specs.Prelude.{ℕ, Bool, ◌||◌, List, [], ◌∷◌, None, option_map, unwrap_or, false, if◌then◌else◌}
use Rattle.std.specs.Option.{option_or}
use Rattle.carte_name.specs.Names.{name_eq}
use Rattle.carte_record.specs.declared.way.Way.{Way}
use Rattle.carte_record.specs.declared.way.Way.TheVariants.{Verifying, Constructive, Deep}
use Rattle.carte_record.specs.declared.start.Start.{Start}
use Rattle.carte_record.specs.declared.start.Start.TheVariants.{GoOn, Cleared}
use Rattle.carte_record.specs.declared.batch.Batch.{Batch}
use Rattle.carte_table.specs.Lookups.{link_in, first_value}
use Rattle.carte_record.specs.Lookups.{entry_in}
use Rattle.carte_record.specs.Ways.{TraceBy}
use Rattle.carte_record.specs.Kept.{SomeKept, nothing_kept, traces_in, staled}

abbrev pub is_among : List (List ℕ) → List ℕ → Bool
is_among [] k = false
is_among (j ∷ js) k = name_eq j k || is_among js k

abbrev pub batch_traces : (w : Way) → Batch → List (TraceBy w)
batch_traces Verifying B = B.verifying
batch_traces Constructive B = B.constructive
batch_traces Deep B = B.deep

-- with the entries of these keys marked stale
abbrev pub with_marks : SomeKept → List (List ℕ) → SomeKept
with_marks K ks = record K { entries = λ k. option_map (staled (is_among ks k)) (K.entries k) }

-- without all that is kept of these names
abbrev pub without : List (List ℕ) → SomeKept → SomeKept
without ks K = record K {
  seen = λ k. if is_among ks k then None else K.seen k;
  entries = λ k. if is_among ks k then None else K.entries k;
  traces = λ w k. if is_among ks k then [] else K.traces w k;
}

-- what the batch begins with
abbrev pub started : Start → SomeKept → SomeKept
started GoOn K = K
started Cleared K = nothing_kept

-- what the batch brings, put into what is left of what it begins with: of a name that it has twice the later one. Marks come last.
abbrev pub carried : Batch → SomeKept → SomeKept
carried B K = record {
  seen = λ k. option_or (link_in B.seen k) ((without B.gone K).seen k);
  entries = λ k. option_map (staled (is_among B.stale k)) (option_or (entry_in B.entries k) ((without B.gone K).entries k));
  traces = λ w k. traces_in w k (batch_traces w B) ((without B.gone K).traces w k);
  chain = unwrap_or B.chain K.chain;
  stored = λ d. option_or (K.stored d) (first_value B.values d);
}

abbrev pub apply : Batch → SomeKept → SomeKept
apply B K = carried B (started B.start K)

-- one after another
abbrev pub applied : SomeKept → List Batch → SomeKept
applied K [] = K
applied K (B ∷ Bs) = applied (apply B K) Bs
