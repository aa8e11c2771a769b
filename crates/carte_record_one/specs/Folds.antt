-- What a batch of version 1 makes of what is kept.
use Rattle.std.specs.Prelude.{ℕ, List, Some, option_map, unwrap_or}
use Rattle.std.specs.Option.{option_or}
use Rattle.carte_record.specs.declared.way.Way.{Way}
use Rattle.carte_record.specs.declared.way.Way.TheVariants.{Verifying, Constructive, Deep}
use Rattle.carte_record_one.specs.declared.trace.TraceOne.{TraceOne}
use Rattle.carte_record_one.specs.declared.start.StartOne.{StartOne}
use Rattle.carte_record_one.specs.declared.start.StartOne.TheVariants.{GoOn, Anew, Cleared}
use Rattle.carte_record_one.specs.declared.batch.BatchOne.{BatchOne}
use Rattle.carte_table.specs.Lookups.{link_in, first_value}
use Rattle.carte_record.specs.Folds.{is_among}
use Rattle.carte_record_one.specs.Lookups.{entry_one_in}
use Rattle.carte_record_one.specs.Kept.{SomeKeptOne, nothing_kept_one, traces_one_in, staled_one}

abbrev pub batch_one_traces : Way → BatchOne → List TraceOne
batch_one_traces Verifying B = B.verifying
batch_one_traces Constructive B = B.constructive
batch_one_traces Deep B = B.deep

-- with the entries of these keys marked stale
abbrev pub with_marks_one : SomeKeptOne → List (List ℕ) → SomeKeptOne
with_marks_one K ks = record K { entries = λ k. option_map (staled_one (is_among ks k)) (K.entries k) }

-- what the batch begins with
abbrev pub started_one : StartOne → SomeKeptOne → SomeKeptOne
started_one GoOn K = K
started_one (Anew d) K = record nothing_kept_one { rules = Some d }
started_one Cleared K = nothing_kept_one

-- what the batch brings, put into what it begins with: of a name that it has twice the later one
abbrev pub carried_one : BatchOne → SomeKeptOne → SomeKeptOne
carried_one B K = record {
  rules = K.rules;
  seen = λ k. option_or (link_in B.seen k) (K.seen k);
  entries = λ k. option_or (entry_one_in B.entries k) ((with_marks_one K B.stale).entries k);
  traces = λ w k. traces_one_in k (batch_one_traces w B) (K.traces w k);
  chain = unwrap_or B.chain K.chain;
  stored = λ d. option_or (K.stored d) (first_value B.values d);
}

abbrev pub apply_one : BatchOne → SomeKeptOne → SomeKeptOne
apply_one B K = carried_one B (started_one B.start K)
