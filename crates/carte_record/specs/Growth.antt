-- How what is kept takes in a batch: its lists grow behind what they had, which can fail, and then their items are replaced.
use Rattle.std.specs.Prelude.{ℕ, List, length, ◌++◌, ◌≡◌, true, Option, option_map, unwrap_or}
use Rattle.std.specs.Option.{option_or}
use Rattle.carte_value.specs.declared.digest.Digest.{Digest}
use Rattle.carte_value.specs.declared.link.Link.{Link}
use Rattle.carte_value.specs.declared.value.Value.{Value}
use Rattle.carte_record.specs.declared.entry.Entry.{Entry}
use Rattle.carte_record.specs.declared.trace.Trace.{Trace}
use Rattle.carte_record.specs.declared.deep_trace.DeepTrace.{DeepTrace}
use Rattle.carte_record.specs.declared.kept.Kept.{Kept}
use Rattle.carte_record.specs.declared.lengths.Lengths.{Lengths}
use Rattle.carte_record.specs.declared.batch.Batch.{Batch}
use Rattle.carte_table.specs.Lookups.{first_value, is_link_of, link_in}
use Rattle.carte_record.specs.Lookups.{entry_in, is_entry_of}
use Rattle.carte_value.specs.Lists.{Begins}
use Rattle.carte_table.specs.Steps.{IsReady, Replaces}
use Rattle.carte_record.specs.Kept.{SomeKept, staled, traces_in}
use Rattle.carte_record.specs.Folds.{batch_traces, is_among}
use Rattle.carte_record.specs.Marked.{all_marked}

-- each list begins with what it had
pub record Grows (old new : Kept) : Type 0 where
  pub seen : Begins old.seen new.seen
  pub entries : Begins old.entries new.entries
  pub verifying : Begins old.verifying new.verifying
  pub constructive : Begins old.constructive new.constructive
  pub deep : Begins old.deep new.deep
  pub chain : new.chain ≡ old.chain
  pub values : Begins old.values new.values

-- the same of a batch, whose lists can all grow but for those of names
pub record GrowsBatch (old new : Batch) : Type 0 where
  pub values : Begins old.values new.values
  pub seen : Begins old.seen new.seen
  pub entries : Begins old.entries new.entries
  pub verifying : Begins old.verifying new.verifying
  pub constructive : Begins old.constructive new.constructive
  pub deep : Begins old.deep new.deep

-- how long its lists are
pub record AreLengthsOf (K : Kept) (n : Lengths) : Type 0 where
  pub seen : n.seen ≡ length K.seen
  pub entries : n.entries ≡ length K.entries
  pub verifying : n.verifying ≡ length K.verifying
  pub constructive : n.constructive ≡ length K.constructive
  pub deep : n.deep ≡ length K.deep
  pub values : n.values ≡ length K.values

-- with traces behind the others
pub record HasTraces (vs cs : List Trace) (ds : List DeepTrace) (old new : Kept) : Type 0 where
  pub verifying : new.verifying ≡ old.verifying ++ vs
  pub constructive : new.constructive ≡ old.constructive ++ cs
  pub deep : new.deep ≡ old.deep ++ ds

-- with values whose digests it lacked, and ready for the links and entries that are left
pub record IsReadyIn (vs : List Value) (ls : List Link) (es : List Entry) (left_links : List Link) (left_entries : List Entry) (old new : Kept) : Type 0 where
  pub values : (d : Digest) → first_value new.values d ≡ option_or (first_value old.values d) (first_value vs d)
  pub seen : IsReady is_link_of ls old.seen left_links new.seen
  pub entries : IsReady is_entry_of es old.entries left_entries new.entries

-- taken in, and then marked
abbrev pub TakesEntries : List (List ℕ) → List Entry → List Entry → List Entry → Type 0
TakesEntries ks es old new = (mid : List Entry) × Replaces is_entry_of es old mid × (new ≡ all_marked true mid ks)

-- with the links and entries that were left in their places, and another chain where there is one
pub record Settles (ls : List Link) (es : List Entry) (ks : List (List ℕ)) (c : Option (List (List ℕ))) (old new : Kept) : Type 0 where
  pub seen : Replaces is_link_of ls old.seen new.seen
  pub entries : TakesEntries ks es old.entries new.entries
  pub verifying : new.verifying ≡ old.verifying
  pub constructive : new.constructive ≡ old.constructive
  pub deep : new.deep ≡ old.deep
  pub chain : new.chain ≡ unwrap_or c old.chain
  pub values : new.values ≡ old.values

-- what a batch brings that drops nothing
abbrev pub put_in : Batch → SomeKept → SomeKept
put_in B K = record {
  seen = λ k. option_or (link_in B.seen k) (K.seen k);
  entries = λ k. option_map (staled (is_among B.stale k)) (option_or (entry_in B.entries k) (K.entries k));
  traces = λ w k. traces_in w k (batch_traces w B) (K.traces w k);
  chain = unwrap_or B.chain K.chain;
  stored = λ d. option_or (K.stored d) (first_value B.values d);
}
