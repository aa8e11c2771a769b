-- What is kept, after a batch of version 1 is taken in.
use Rattle.std.proofs.Common.{◌≡◌, ℕ, Bool, true, false, List, [], ◌∷◌, ◌++◌, Option, Some, None, refl, ap, ◌∙◌, cond}
use Rattle.std.specs.Prelude.{find, option_map, unwrap_or, if◌then◌else◌}
use Rattle.std.specs.Option.{option_or}
use Rattle.carte_value.specs.declared.digest.Digest.{Digest}
use Rattle.carte_value.specs.declared.link.Link.{Link}
use Rattle.carte_name.specs.Names.{name_eq}
use Rattle.carte_record.specs.declared.way.Way.{Way}
use Rattle.carte_record.specs.declared.way.Way.TheVariants.{Verifying, Constructive, Deep}
use Rattle.carte_record_one.specs.declared.entry.EntryOne.{EntryOne}
use Rattle.carte_record_one.specs.declared.trace.TraceOne.{TraceOne}
use Rattle.carte_record_one.specs.declared.batch.BatchOne.{BatchOne}
use Rattle.carte_record_one.specs.declared.kept.KeptOne.{KeptOne}
use Rattle.carte_table.specs.Changes.{all_changed}
use Rattle.carte_table.specs.Lookups.{digest_in, find_last, first_link, first_value, is_link_of, link_in}
use Rattle.carte_table.specs.Steps.{IsReady, Replaces}
use Rattle.carte_record.specs.Folds.{is_among}
use Rattle.carte_record_one.specs.Lookups.{entry_one_in, first_entry_one, is_entry_one_of}
use Rattle.carte_record_one.specs.Kept.{SomeKeptOne, kept_one_traces, kept_one_view, newest_one, staled_one, traces_one_in}
use Rattle.carte_record_one.specs.Folds.{carried_one}
use Rattle.carte_record_one.specs.Growth.{TakesKeys, TakesTraces}
use Rattle.carte_record_one.specs.Marked.{marked_as}
use Rattle.carte_record.proofs.Marks.{all_found}
use Rattle.carte_table.proofs.Found.{map_or}
use Rattle.carte_table.proofs.Steps.{brought}

-- what is alike is equal
pub kept_one_same : (K L : SomeKeptOne) → K.rules ≡ L.rules → ((k : List ℕ) → K.seen k ≡ L.seen k) → ((k : List ℕ) → K.entries k ≡ L.entries k) → ((w : Way) (k : List ℕ) → K.traces w k ≡ L.traces w k)
    → K.chain ≡ L.chain → ((d : Digest) → K.stored d ≡ L.stored d) → K ≡ L
kept_one_same K L rules seen entries traces chain stored i = record { rules = rules i; seen = λ k. seen k i; entries = λ k. entries k i; traces = λ w k. traces w k i; chain = chain i; stored = λ d. stored d i }

traces_on : (k : List ℕ) (xs ys old : List TraceOne) → traces_one_in k (xs ++ ys) old ≡ traces_one_in k ys (traces_one_in k xs old)
traces_on k [] ys old = refl
traces_on k (x ∷ xs) ys old = traces_on k xs ys (cond (name_eq k x.key) (newest_one x old) old)

pub no_traces : (K : KeptOne) → K.verifying ≡ [] → K.constructive ≡ [] → K.deep ≡ [] → (w : Way) (k : List ℕ) → traces_one_in k (kept_one_traces w K) [] ≡ []
no_traces K v c d Verifying k = ap (λ ts. traces_one_in k ts []) v
no_traces K v c d Constructive k = ap (λ ts. traces_one_in k ts []) c
no_traces K v c d Deep k = ap (λ ts. traces_one_in k ts []) d

-- what is found of each key behind marks
marked_found : (es : List EntryOne) (ks : List (List ℕ)) (k : List ℕ) → first_entry_one (all_changed is_entry_one_of (marked_as true) es ks) k ≡ option_map (staled_one (is_among ks k)) (first_entry_one es k)
marked_found es ks k = all_found (λ e. e.key) (marked_as true) (λ e. refl) (λ e. refl) es ks k ∙ on (is_among ks k) (first_entry_one es k)
  where
    on : (b : Bool) (o : Option EntryOne) → option_map (λ e. if b then marked_as true e else e) o ≡ option_map (staled_one b) o
    on b None = refl
    on true (Some e) = refl
    on false (Some e) = refl

pub links_taken : (ls old left mid new : List Link) → IsReady is_link_of ls old left mid → Replaces is_link_of left mid new → (k : List ℕ) → first_link new k ≡ option_or (link_in ls k) (first_link old k)
links_taken ls old left mid new ready takes k = ap digest_in (brought (λ l. l.name) ls old left mid new ready takes k) ∙ map_or (λ l. l.digest) (find_last (is_link_of k) ls) (find (is_link_of k) old)

pub entries_taken : (ks : List (List ℕ)) (es old marked left mid new : List EntryOne) → marked ≡ all_changed is_entry_one_of (marked_as true) old ks → IsReady is_entry_one_of es marked left mid → Replaces is_entry_one_of left mid new
    → (k : List ℕ) → first_entry_one new k ≡ option_or (entry_one_in es k) (option_map (staled_one (is_among ks k)) (first_entry_one old k))
entries_taken ks es old marked left mid new is ready takes k =
    brought (λ e. e.key) es marked left mid new ready takes k
    ∙ ap (option_or (entry_one_in es k)) (ap (λ xs. first_entry_one xs k) is ∙ marked_found old ks k)

pub carried_by : (B : BatchOne) (old mid new last : KeptOne) → TakesKeys B.values B.seen B.stale B.entries old mid → TakesTraces B.verifying B.constructive B.deep mid new → last ≡ record new { chain = unwrap_or B.chain new.chain }
    → kept_one_view last ≡ carried_one B (kept_one_view old)
carried_by B old mid new last keys more is =
    ap kept_one_view is
    ∙ kept_one_same (kept_one_view (record new { chain = unwrap_or B.chain new.chain })) (carried_one B (kept_one_view old)) (more.rules ∙ keys.rules)
    (λ k. ap (λ ls. first_link ls k) more.seen ∙ keys.seen k)
    (λ k. ap (λ es. first_entry_one es k) more.entries ∙ keys.entries k)
    traces (ap (unwrap_or B.chain) (more.chain ∙ keys.chain))
    (λ d. ap (λ vs. first_value vs d) more.values ∙ keys.values d)
  where
    behind : (k : List ℕ) (one two three ts : List TraceOne) → three ≡ two ++ ts → two ≡ one → traces_one_in k three [] ≡ traces_one_in k ts (traces_one_in k one [])
    behind k one two three ts is same = ap (λ us. traces_one_in k us []) (is ∙ ap (λ us. us ++ ts) same) ∙ traces_on k one ts []

    traces : (w : Way) (k : List ℕ) → (kept_one_view (record new { chain = unwrap_or B.chain new.chain })).traces w k ≡ (carried_one B (kept_one_view old)).traces w k
    traces Verifying k = behind k old.verifying mid.verifying new.verifying B.verifying more.verifying keys.verifying
    traces Constructive k = behind k old.constructive mid.constructive new.constructive B.constructive more.constructive keys.constructive
    traces Deep k = behind k old.deep mid.deep new.deep B.deep more.deep keys.deep
