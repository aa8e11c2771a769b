-- What is kept, after a batch is taken in, and where it isn't.
use Rattle.std.proofs.Common.{◌≡◌, ℕ, Bool, List, [], ◌∷◌, ◌++◌, refl, ap, ◌∙◌, take, length, cond}
use Rattle.std.proofs.Math.Seq.{take-append_seam}
use Rattle.std.specs.Prelude.{find, option_map, unwrap_or}
use Rattle.std.specs.Option.{option_or}
use Rattle.carte_value.specs.declared.digest.Digest.{Digest}
use Rattle.carte_value.specs.declared.link.Link.{Link}
use Rattle.carte_name.specs.Names.{name_eq}
use Rattle.carte_record.specs.declared.entry.Entry.{Entry}
use Rattle.carte_record.specs.declared.way.Way.{Way}
use Rattle.carte_record.specs.declared.way.Way.TheVariants.{Verifying, Constructive, Deep}
use Rattle.carte_record.specs.declared.kept.Kept.{Kept}
use Rattle.carte_record.specs.declared.batch.Batch.{Batch}
use Rattle.carte_record.specs.declared.lengths.Lengths.{Lengths}
use Rattle.carte_table.specs.Lookups.{first_link, link_in, first_value, digest_in, find_last, is_link_of}
use Rattle.carte_record.specs.Lookups.{first_entry, entry_in, is_entry_of}
use Rattle.carte_record.specs.Ways.{TraceBy, key_by, eq_by}
use Rattle.carte_value.specs.Lists.{Begins}
use Rattle.carte_table.specs.Steps.{IsReady}
use Rattle.carte_record.specs.Kept.{SomeKept, kept_view, kept_traces, newest, newest_in, traces_in, staled}
use Rattle.carte_record.specs.Folds.{is_among, batch_traces}
use Rattle.carte_record.specs.Growth.{Grows, AreLengthsOf, HasTraces, IsReadyIn, TakesEntries, Settles, put_in}
use Rattle.carte_table.proofs.Found.{map_or}
use Rattle.carte_table.proofs.Steps.{brought, begins_self}
use Rattle.carte_record.proofs.Marks.{marked_found}

-- what is alike is equal
pub kept_same : (K L : SomeKept) → ((k : List ℕ) → K.seen k ≡ L.seen k) → ((k : List ℕ) → K.entries k ≡ L.entries k) → ((w : Way) (k : List ℕ) → K.traces w k ≡ L.traces w k)
    → K.chain ≡ L.chain → ((d : Digest) → K.stored d ≡ L.stored d) → K ≡ L
kept_same K L seen entries traces chain stored i = record { seen = λ k. seen k i; entries = λ k. entries k i; traces = λ w k. traces w k i; chain = chain i; stored = λ d. stored d i }

pub newest_on : {A : Type 0} (key : A → List ℕ) (alike : A → A → Bool) (k : List ℕ) (xs ys old : List A) → newest_in key alike k (xs ++ ys) old ≡ newest_in key alike k ys (newest_in key alike k xs old)
newest_on key alike k [] ys old = refl
newest_on key alike k (x ∷ xs) ys old = newest_on key alike k xs ys (cond (name_eq k (key x)) (newest alike x old) old)

pub traces_on : (w : Way) (k : List ℕ) (xs ys old : List (TraceBy w)) → traces_in w k (xs ++ ys) old ≡ traces_in w k ys (traces_in w k xs old)
traces_on w = newest_on (key_by w) (eq_by w)

pub no_traces : (K : Kept) → K.verifying ≡ [] → K.constructive ≡ [] → K.deep ≡ [] → (w : Way) (k : List ℕ) → traces_in w k (kept_traces w K) [] ≡ []
no_traces K v c d Verifying k = ap (λ ts. traces_in Verifying k ts []) v
no_traces K v c d Constructive k = ap (λ ts. traces_in Constructive k ts []) c
no_traces K v c d Deep k = ap (λ ts. traces_in Deep k ts []) d

entries_taken : (ks : List (List ℕ)) (es old left mid new : List Entry) → IsReady is_entry_of es old left mid → TakesEntries ks left mid new → (k : List ℕ) → first_entry new k ≡ option_map (staled (is_among ks k)) (option_or (entry_in es k) (first_entry old k))
entries_taken ks es old left mid new ready (taken, takes, is) k = ap (λ xs. first_entry xs k) is ∙ marked_found taken ks k ∙ ap (option_map (staled (is_among ks k))) (brought (λ e. e.key) es old left mid taken ready takes k)

pub carried_by : (B : Batch) (ls : List Link) (es : List Entry) (old mid new : Kept) → Grows old mid → HasTraces B.verifying B.constructive B.deep old mid → IsReadyIn B.values B.seen B.entries ls es old mid → Settles ls es B.stale B.chain mid new
    → kept_view new ≡ put_in B (kept_view old)
carried_by B ls es old mid new grows more room settles = kept_same (kept_view new) (put_in B (kept_view old)) seen entries traces (settles.chain ∙ ap (unwrap_or B.chain) grows.chain) stored
  where
    seen : (k : List ℕ) → first_link new.seen k ≡ option_or (link_in B.seen k) (first_link old.seen k)
    seen k = ap digest_in (brought (λ l. l.name) B.seen old.seen ls mid.seen new.seen room.seen settles.seen k) ∙ map_or (λ l. l.digest) (find_last (is_link_of k) B.seen) (find (is_link_of k) old.seen)

    entries : (k : List ℕ) → first_entry new.entries k ≡ option_map (staled (is_among B.stale k)) (option_or (entry_in B.entries k) (first_entry old.entries k))
    entries = entries_taken B.stale B.entries old.entries es mid.entries new.entries room.entries settles.entries

    traces : (w : Way) (k : List ℕ) → traces_in w k (kept_traces w new) [] ≡ traces_in w k (batch_traces w B) (traces_in w k (kept_traces w old) [])
    traces Verifying k = ap (λ ts. traces_in Verifying k ts []) (settles.verifying ∙ more.verifying) ∙ traces_on Verifying k old.verifying B.verifying []
    traces Constructive k = ap (λ ts. traces_in Constructive k ts []) (settles.constructive ∙ more.constructive) ∙ traces_on Constructive k old.constructive B.constructive []
    traces Deep k = ap (λ ts. traces_in Deep k ts []) (settles.deep ∙ more.deep) ∙ traces_on Deep k old.deep B.deep []

    stored : (d : Digest) → first_value new.values d ≡ option_or (first_value old.values d) (first_value B.values d)
    stored d = ap (λ vs. first_value vs d) settles.values ∙ room.values d

begin_cut : {A : Type 0} (xs ys : List A) (n : ℕ) → Begins xs ys → n ≡ length xs → take n ys ≡ xs
begin_cut xs ys n (zs, is) many = rw (is, many) (take-append_seam xs zs)

pub shrunk : (old mid new : Kept) (n : Lengths) → Grows old mid → AreLengthsOf old n → new.seen ≡ take n.seen mid.seen → new.entries ≡ take n.entries mid.entries
    → new.verifying ≡ take n.verifying mid.verifying → new.constructive ≡ take n.constructive mid.constructive → new.deep ≡ take n.deep mid.deep → new.chain ≡ mid.chain → new.values ≡ take n.values mid.values → new ≡ old
shrunk old mid new n grows are seen entries verifying constructive deep chain values i = record {
  seen = (seen ∙ begin_cut old.seen mid.seen n.seen grows.seen are.seen) i;
  entries = (entries ∙ begin_cut old.entries mid.entries n.entries grows.entries are.entries) i;
  verifying = (verifying ∙ begin_cut old.verifying mid.verifying n.verifying grows.verifying are.verifying) i;
  constructive = (constructive ∙ begin_cut old.constructive mid.constructive n.constructive grows.constructive are.constructive) i;
  deep = (deep ∙ begin_cut old.deep mid.deep n.deep grows.deep are.deep) i;
  chain = (chain ∙ grows.chain) i;
  values = (values ∙ begin_cut old.values mid.values n.values grows.values are.values) i;
}

pub grows_self : (K : Kept) → Grows K K
grows_self K = record { seen = begins_self K.seen; entries = begins_self K.entries; verifying = begins_self K.verifying; constructive = begins_self K.constructive; deep = begins_self K.deep; chain = refl; values = begins_self K.values }
