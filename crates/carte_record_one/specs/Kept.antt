-- What was kept in version 1, as functions: two of them that are alike are equal.
use Rattle.std.specs.Prelude.{ℕ, Bool, not, ◌&&◌, ◌||◌, List, [], ◌∷◌, Option, None, filter, if◌then◌else◌}
use Rattle.carte_value.specs.declared.digest.Digest.{Digest}
use Rattle.carte_value.specs.declared.value.Value.{Value}
use Rattle.carte_name.specs.Names.{name_eq}
use Rattle.carte_table.specs.Lookups.{digest_eq, first_link, first_value}
use Rattle.carte_record.specs.declared.way.Way.{Way}
use Rattle.carte_record.specs.declared.way.Way.TheVariants.{Verifying, Constructive, Deep}
use Rattle.carte_record.specs.Lookups.{links_eq}
use Rattle.carte_record_one.specs.declared.entry.EntryOne.{EntryOne}
use Rattle.carte_record_one.specs.declared.trace.TraceOne.{TraceOne}
use Rattle.carte_record_one.specs.declared.kept.KeptOne.{KeptOne}
use Rattle.carte_record_one.specs.Lookups.{first_entry_one}

pub record SomeKeptOne : Type 0 where
  -- the digest of the rules
  pub rules : Option Digest
  -- the digest that an input was seen with
  pub seen : List ℕ → Option Digest
  pub entries : List ℕ → Option EntryOne
  -- of each key, newest first, each once
  pub traces : Way → List ℕ → List TraceOne
  pub chain : List (List ℕ)
  -- the first value of a digest
  pub stored : Digest → Option Value

abbrev pub nothing_kept_one : SomeKeptOne
nothing_kept_one = record { rules = None; seen = λ k. None; entries = λ k. None; traces = λ w k. []; chain = []; stored = λ d. None }

-- traces that are equal
abbrev pub trace_one_eq : TraceOne → TraceOne → Bool
trace_one_eq s t = (name_eq s.key t.key && digest_eq s.result t.result) && links_eq s.links t.links

-- one trace more, that is then the newest
abbrev pub newest_one : TraceOne → List TraceOne → List TraceOne
newest_one t ts = t ∷ filter (λ s. not (trace_one_eq s t)) ts

-- the traces of a key, after those of a list that are of this key
abbrev pub traces_one_in : List ℕ → List TraceOne → List TraceOne → List TraceOne
traces_one_in k [] old = old
traces_one_in k (t ∷ ts) old = traces_one_in k ts (if name_eq k t.key then newest_one t old else old)

-- the list of traces of one kind
abbrev pub kept_one_traces : Way → KeptOne → List TraceOne
kept_one_traces Verifying K = K.verifying
kept_one_traces Constructive K = K.constructive
kept_one_traces Deep K = K.deep

abbrev pub kept_one_view : KeptOne → SomeKeptOne
kept_one_view K = record {
  rules = K.rules;
  seen = first_link K.seen;
  entries = first_entry_one K.entries;
  traces = λ w k. traces_one_in k (kept_one_traces w K) [];
  chain = K.chain;
  stored = first_value K.values;
}

-- neither stale nor shallow
abbrev pub is_fresh_one : EntryOne → Bool
is_fresh_one e = not e.stale && not e.shallow

-- the entry, marked stale where the test says so
abbrev pub staled_one : Bool → EntryOne → EntryOne
staled_one b e = record e { stale = b || e.stale }
