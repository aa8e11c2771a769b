-- What is kept under the tasks of a book, list for list.
use Rattle.std.proofs.Common.{◌≡◌, ℕ, Bool, true, false, not, ◌&&◌, cond, List, [], ◌∷◌, Option, Some, None, option_map, map, filter, refl, ap, sym, ◌∙◌, subst}
use Rattle.std.specs.Prelude.{if◌then◌else◌}
use Rattle.carte_name.specs.Names.{name_eq}
use Rattle.carte_value.specs.declared.digest.Digest.{Digest}
use Rattle.carte_book.specs.Book.{Book}
use Rattle.carte_book.specs.Task.{task_now}
use Rattle.carte_table.specs.Lookups.{digest_eq, first_link, first_value}
use Rattle.carte_table.proofs.Names.{name_eq_is}
use Rattle.carte_record.specs.declared.entry.Entry.{Entry}
use Rattle.carte_record.specs.declared.kept.Kept.{Kept}
use Rattle.carte_record.specs.declared.way.Way.{Way}
use Rattle.carte_record.specs.declared.way.Way.TheVariants.{Verifying, Constructive, Deep}
use Rattle.carte_record.specs.Kept.{kept_traces, kept_view, newest, traces_in}
use Rattle.carte_record.specs.Lookups.{first_entry, links_eq, trace_eq}
use Rattle.carte_record.proofs.Growing.{kept_same}
use Rattle.carte_record.proofs.Looked.{digest_eq_self, find_passes}
use Rattle.carte_record_one.specs.declared.entry.EntryOne.{EntryOne}
use Rattle.carte_record_one.specs.declared.kept.KeptOne.{KeptOne}
use Rattle.carte_record_one.specs.declared.trace.TraceOne.{TraceOne}
use Rattle.carte_record_one.specs.Kept.{kept_one_traces, kept_one_view, newest_one, trace_one_eq, traces_one_in}
use Rattle.carte_record_one.specs.Lookups.{first_entry_one, is_entry_one_of}
use Rattle.carte_sound.specs.True.{or_none}
use Rattle.carte_sound_one.specs.Up.{raised, raised_entry, raised_trace, raised_traces}
use Rattle.carte_migrate.specs.Tasks.{KnowsTasks}

-- ---- entries

raised_found : (b : Book) (es : List EntryOne) (k : List ℕ) → first_entry (map (raised_entry b) es) k ≡ option_map (raised_entry b) (first_entry_one es k)
raised_found b [] k = refl
raised_found b (e ∷ es) k = on (name_eq k e.key) (raised_found b es k)
  where
    on : (t : Bool) → first_entry (map (raised_entry b) es) k ≡ option_map (raised_entry b) (first_entry_one es k)
        → cond t (Some (raised_entry b e)) (first_entry (map (raised_entry b) es) k) ≡ option_map (raised_entry b) (cond t (Some e) (first_entry_one es k))
    on true same = refl
    on false same = same

pub tasks_known : (b : Book) (es : List EntryOne) (xs : List Entry) → xs ≡ map (raised_entry b) es → KnowsTasks b xs
tasks_known b es xs are k e found = on k e (first_entry_one es k) refl (sym (raised_found b es k) ∙ ap (λ ys. first_entry ys k) (sym are) ∙ found)
  where
    on : (k : List ℕ) (e : Entry) (o : Option EntryOne) → first_entry_one es k ≡ o → option_map (raised_entry b) o ≡ Some e → e.task ≡ or_none (task_now b k)
    on k e None found same = cc
    on k e (Some d) found same =
        let here : raised_entry b d ≡ e = cc in
        ap (λ (x : Entry). x.task) (sym here) ∙ ap (λ j. or_none (task_now b j)) (sym (name_eq_is k d.key (find_passes (is_entry_one_of k) es d found)))

-- ---- traces

filter_map : {A B : Type 0} (f : A → B) (p : B → Bool) (q : A → Bool) → ((x : A) → p (f x) ≡ q x) → (xs : List A) → filter p (map f xs) ≡ map f (filter q xs)
filter_map f p q same [] = refl
filter_map {A = A} f p q same (x ∷ xs) = on (q x) (same x) (filter_map f p q same xs)
  where
    on : (t : Bool) → p (f x) ≡ t → filter p (map f xs) ≡ map f (filter q xs) → cond (p (f x)) (f x ∷ filter p (map f xs)) (filter p (map f xs)) ≡ map f (cond t (x ∷ filter q xs) (filter q xs))
    on true is rest = rw is (ap (λ ys. f x ∷ ys) rest)
    on false is rest = rw is rest

module _ (b : Book) where
  abbrev task_of : List ℕ → Digest
  task_of k = or_none (task_now b k)

  -- traces of one key have one task, so those that were equal are, and no others
  alike : (s t : TraceOne) → trace_eq (raised_trace b s) (raised_trace b t) ≡ trace_one_eq s t
  alike s t = on (name_eq s.key t.key) refl
    where
      on : (c : Bool) → name_eq s.key t.key ≡ c
          → ((c && digest_eq (task_of s.key) (task_of t.key)) && digest_eq s.result t.result) && links_eq s.links t.links ≡ (c && digest_eq s.result t.result) && links_eq s.links t.links
      on true is =
          let same : digest_eq (task_of s.key) (task_of t.key) ≡ true = subst (λ k. digest_eq (task_of s.key) (task_of k) ≡ true) (name_eq_is s.key t.key is) (digest_eq_self (task_of s.key)) in
          ap (λ c. (c && digest_eq s.result t.result) && links_eq s.links t.links) same
      on false is = refl

  newest_raised : (t : TraceOne) (ts : List TraceOne) → newest trace_eq (raised_trace b t) (map (raised_trace b) ts) ≡ map (raised_trace b) (newest_one t ts)
  newest_raised t ts = ap (λ us. raised_trace b t ∷ us) (filter_map (raised_trace b) (λ s. not (trace_eq s (raised_trace b t))) (λ s. not (trace_one_eq s t)) (λ s. ap not (alike s t)) ts)

  traces_raised : (k : List ℕ) (ts old : List TraceOne) → traces_in Verifying k (map (raised_trace b) ts) (map (raised_trace b) old) ≡ map (raised_trace b) (traces_one_in k ts old)
  traces_raised k [] old = refl
  traces_raised k (t ∷ ts) old = on (name_eq k t.key) (λ o. traces_raised k ts o)
    where
      on : (c : Bool) → ((o : List TraceOne) → traces_in Verifying k (map (raised_trace b) ts) (map (raised_trace b) o) ≡ map (raised_trace b) (traces_one_in k ts o))
          → traces_in Verifying k (map (raised_trace b) ts) (if c then newest trace_eq (raised_trace b t) (map (raised_trace b) old) else map (raised_trace b) old) ≡ map (raised_trace b) (traces_one_in k ts (if c then newest_one t old else old))
      on true rest = ap (traces_in Verifying k (map (raised_trace b) ts)) (newest_raised t old) ∙ rest (newest_one t old)
      on false rest = rest old

-- ---- all of it

pub kept_raised : (b : Book) (old : KeptOne) (K : Kept) → K.seen ≡ old.seen → K.entries ≡ map (raised_entry b) old.entries
    → K.verifying ≡ map (raised_trace b) old.verifying → K.constructive ≡ map (raised_trace b) old.constructive → K.deep ≡ []
    → K.chain ≡ old.chain → ((d : Digest) → first_value K.values d ≡ first_value old.values d) → kept_view K ≡ raised (kept_one_view old) b
kept_raised b old K seen entries verifying constructive deep chain values =
    kept_same (kept_view K) (raised (kept_one_view old) b) (λ k. ap (λ ls. first_link ls k) seen) (λ k. ap (λ es. first_entry es k) entries ∙ raised_found b old.entries k) traces chain values
  where
    traces : (w : Way) (k : List ℕ) → traces_in w k (kept_traces w K) [] ≡ raised_traces w b (traces_one_in k (kept_one_traces w old) [])
    traces Verifying k = ap (λ ts. traces_in Verifying k ts []) verifying ∙ traces_raised b k old.verifying []
    traces Constructive k = ap (λ ts. traces_in Constructive k ts []) constructive ∙ traces_raised b k old.constructive []
    traces Deep k = ap (λ ts. traces_in Deep k ts []) deep
