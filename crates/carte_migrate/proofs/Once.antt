-- The batch that is raised has each thing once.
use Rattle.std.proofs.Common.{◌≡◌, ℕ, ◌⊎◌, Bool, true, false, cond, List, [], ◌∷◌, Option, Some, None, option_map, map, filter, refl, ap, sym, ◌∙◌, subst, inl, inr}
use Rattle.std.specs.Prelude.{◌||◌, if◌then◌else◌}
use Rattle.std.specs.List.{AllByRecursion, list_any}
use Rattle.std.specs.List.Sorted.{IsStrictlySortedBy}
use Rattle.std.specs.Ordering.{is_eq}
use Rattle.std.specs.declared.cmp.Ordering.TheVariants.{Less}
use Rattle.std.specs.Cmp.Lexicographic.{texts_ties}
use Rattle.carte_name.specs.Names.{name_cmp}
use Rattle.carte_value.specs.declared.digest.Digest.{Digest}
use Rattle.carte_value.specs.declared.link.Link.{Link}
use Rattle.carte_value.specs.Lists.{Has}
use Rattle.carte_value.specs.Spelling.{digest_of}
use Rattle.carte_value.specs.Truths.{Among, NoneTwice}
use Rattle.carte_table.proofs.Names.{name_eq_is, name_eq_self}
use Rattle.carte_record.specs.declared.batch.Batch.{Batch}
use Rattle.carte_record.specs.declared.entry.Entry.{Entry}
use Rattle.carte_record.specs.declared.kept.Kept.{Kept}
use Rattle.carte_record.specs.declared.start.Start.TheVariants.{Cleared}
use Rattle.carte_record.specs.declared.way.Way.{Way}
use Rattle.carte_record.specs.declared.way.Way.TheVariants.{Verifying, Constructive, Deep}
use Rattle.carte_record.specs.Folds.{batch_traces}
use Rattle.carte_record.specs.Latest.{last_ones}
use Rattle.carte_record.specs.Lookups.{first_entry, is_entry_of}
use Rattle.carte_record.specs.Ways.{TraceBy, eq_by}
use Rattle.carte_table.specs.Latest as latest
use Rattle.carte_record.specs.Marked.{marked_as}
use Rattle.carte_record.proofs.Looked.{eq_by_self, find_passes}
use Rattle.carte_sound.specs.LeadsTo.{empty_batch}
use Rattle.carte_sound.specs.Lists.{EachOnce}
use Rattle.carte_compact.specs.Live.{IsAllOf, chain_for, entry_at, found_at, is_stale, link_at, put, stale_at}
use Rattle.carte_migrate.specs.Each.{CarriesEach}
use Rattle.carte_migrate.proofs.Firsts.{once_by_digest}

-- ---- names in order

below_apart : (k : List ℕ) (ks : List (List ℕ)) → AllByRecursion (λ j. name_cmp k j ≡ Less) ks → ¬ (Among ks k)
below_apart k [] below nowhere = nowhere
below_apart k (j ∷ js) below (inl same) =
    let less : name_cmp k k ≡ Less = subst (λ i. name_cmp k i ≡ Less) (sym same) below.0 in
    let clash : true ≡ false = sym (name_eq_self k) ∙ texts_ties k k ∙ ap is_eq less in
    cc
below_apart k (j ∷ js) below (inr later) = below_apart k js below.1 later

rising_once : (ks : List (List ℕ)) → IsStrictlySortedBy name_cmp ks → NoneTwice ks
unfolding IsStrictlySortedBy
rising_once [] rising = tt
rising_once (k ∷ ks) rising = (below_apart k ks rising.0, rising_once ks rising.1)

let_among : (p : List ℕ → Bool) (ks : List (List ℕ)) (k : List ℕ) → Among (filter p ks) k → Among ks k × (p k ≡ true)
let_among p [] k nowhere = absurd nowhere
let_among p (j ∷ js) k there = on (p j) refl there (let_among p js k)
  where
    on : (c : Bool) → p j ≡ c → Among (cond c (j ∷ filter p js) (filter p js)) k → (Among (filter p js) k → Among js k × (p k ≡ true)) → ((k ≡ j) ⊎ Among js k) × (p k ≡ true)
    on true passes (inl same) rest = (inl same, ap p same ∙ passes)
    on true passes (inr later) rest = let r = rest later in (inr r.0, r.1)
    on false fails later rest = let r = rest later in (inr r.0, r.1)

let_once : (p : List ℕ → Bool) (ks : List (List ℕ)) → NoneTwice ks → NoneTwice (filter p ks)
let_once p [] once = tt
let_once p (k ∷ ks) once = on (p k) (let_once p ks once.1)
  where
    on : (c : Bool) → NoneTwice (filter p ks) → NoneTwice (cond c (k ∷ filter p ks) (filter p ks))
    on true rest = ((λ later. once.0 (let_among p ks k later).0), rest)
    on false rest = rest

-- ---- what is found of names

module _ {A : Type 0} (key : A → List ℕ) (f : List ℕ → Option A) (own : (n : List ℕ) (x : A) → f n ≡ Some x → key x ≡ n) where
  found_among : (ns : List (List ℕ)) (k : List ℕ) → Among (map key (found_at f ns)) k → Among ns k
  found_among [] k nowhere = nowhere
  found_among (n ∷ ns) k there = on (f n) refl there (found_among ns k)
    where
      on : (o : Option A) → f n ≡ o → Among (map key (put o (found_at f ns))) k → (Among (map key (found_at f ns)) k → Among ns k) → (k ≡ n) ⊎ Among ns k
      on None is later rest = inr (rest later)
      on (Some x) is (inl same) rest = inl (same ∙ own n x is)
      on (Some x) is (inr later) rest = inr (rest later)

  found_once : (ns : List (List ℕ)) → NoneTwice ns → NoneTwice (map key (found_at f ns))
  found_once [] once = tt
  found_once (n ∷ ns) once = on (f n) refl (found_once ns once.1)
    where
      on : (o : Option A) → f n ≡ o → NoneTwice (map key (found_at f ns)) → NoneTwice (map key (put o (found_at f ns)))
      on None is rest = rest
      on (Some x) is rest = ((λ later. once.0 (subst (Among ns) (own n x is) (found_among ns (key x) later))), rest)

  among_found : (ns : List (List ℕ)) (k : List ℕ) (x : A) → Among ns k → f k ≡ Some x → Among (map key (found_at f ns)) k
  among_found [] k x nowhere is = nowhere
  among_found (n ∷ ns) k x there is = on (f n) refl there (λ later. among_found ns k x later is)
    where
      on : (o : Option A) → f n ≡ o → (k ≡ n) ⊎ Among ns k → (Among ns k → Among (map key (found_at f ns)) k) → Among (map key (put o (found_at f ns))) k
      on None at (inl same) rest = let clash : Some x ≡ None = sym is ∙ ap f same ∙ at in cc
      on None at (inr later) rest = rest later
      on (Some y) at (inl same) rest = inl (same ∙ sym (own n y at))
      on (Some y) at (inr later) rest = inr (rest later)

own_link : (ls : List Link) (n : List ℕ) (l : Link) → link_at ls n ≡ Some l → l.name ≡ n
own_link ls n l is = on _ is
  where
    on : (o : Option Digest) → option_map (λ d. let m : Link = record { name = n; digest = d } in m) o ≡ Some l → l.name ≡ n
    on None is = cc
    on (Some d) is = cc

own_entry : (es : List Entry) (k : List ℕ) (e : Entry) → entry_at es k ≡ Some e → e.key ≡ k
own_entry es k e is = on (first_entry es k) refl is
  where
    on : (o : Option Entry) → first_entry es k ≡ o → option_map (marked_as false) o ≡ Some e → e.key ≡ k
    on None found is = cc
    on (Some d) found is =
        let same : marked_as false d ≡ e = cc in
        sym (ap (λ (g : Entry). g.key) same) ∙ sym (name_eq_is k d.key (find_passes (is_entry_of k) es d found))

stale_found : (es : List Entry) (k : List ℕ) → is_stale (first_entry es k) ≡ true → (e : Entry) × (entry_at es k ≡ Some e)
stale_found es k = on (first_entry es k)
  where
    on : (o : Option Entry) → is_stale o ≡ true → (e : Entry) × (option_map (marked_as false) o ≡ Some e)
    on None is = cc
    on (Some d) is = (marked_as false d, refl)

-- ---- traces

module _ {A : Type 0} (alike : A → A → Bool) (alike_self : (x : A) → alike x x ≡ true) where
  last_any : (xs : List A) (x : A) → Has (latest.last_ones alike xs) x → list_any (alike x) xs ≡ true
  last_any [] x nowhere = absurd nowhere
  last_any (y ∷ ys) x there = on (list_any (alike y) ys) there (last_any ys x)
    where
      or_true : (c : Bool) → c || true ≡ true
      or_true true = refl
      or_true false = refl

      on : (c : Bool) → Has (if c then latest.last_ones alike ys else y ∷ latest.last_ones alike ys) x → (Has (latest.last_ones alike ys) x → list_any (alike x) ys ≡ true) → alike x y || list_any (alike x) ys ≡ true
      on true later rest = rw (rest later) (or_true (alike x y))
      on false (inl same) rest = let own : alike x y ≡ true = ap (alike x) (sym same) ∙ alike_self x in rw own refl
      on false (inr later) rest = rw (rest later) (or_true (alike x y))

  last_once : (xs : List A) → EachOnce (latest.last_ones alike xs)
  last_once [] = tt
  last_once (x ∷ xs) = on (list_any (alike x) xs) refl (last_once xs)
    where
      on : (c : Bool) → list_any (alike x) xs ≡ c → EachOnce (latest.last_ones alike xs) → EachOnce (if c then latest.last_ones alike xs else x ∷ latest.last_ones alike xs)
      on true is rest = rest
      on false is rest = ((λ later. let clash : true ≡ false = sym (last_any xs x later) ∙ is in cc), rest)

traces_once_in : (w : Way) (ts : List (TraceBy w)) → EachOnce (last_ones w ts)
traces_once_in w = last_once (eq_by w) (eq_by_self w)

-- ---- the batch

no_chain : (ks : List (List ℕ)) → ¬ (chain_for ks ≡ Some [])
no_chain [] is = cc
no_chain (k ∷ ks) is = cc

module _ (K : Kept) (names keys : List (List ℕ)) (named : IsStrictlySortedBy name_cmp names) (listed : IsStrictlySortedBy name_cmp keys) (once : EachOnce (map digest_of K.values)) (B : Batch) (all : IsAllOf K names keys B) where
  traces_once : (w : Way) → EachOnce (batch_traces w B)
  traces_once Verifying = subst EachOnce (sym all.verifying) (traces_once_in Verifying K.verifying)
  traces_once Constructive = subst EachOnce (sym all.constructive) (traces_once_in Constructive K.constructive)
  traces_once Deep = subst EachOnce (sym all.deep) (traces_once_in Deep K.deep)

  still_there : (k : List ℕ) → Among (stale_at K.entries keys) k → Among (map (λ (e : Entry). e.key) (found_at (entry_at K.entries) keys)) k
  still_there k there =
      let here = let_among (λ j. is_stale (first_entry K.entries j)) keys k there in
      let found = stale_found K.entries k here.1 in
      among_found (λ (e : Entry). e.key) (entry_at K.entries) (own_entry K.entries) keys k found.0 here.0 found.1

  pub each : CarriesEach (record B { start = Cleared })
  each = record {
    values = once_by_digest K.values B.values all.values once;
    gone = all.gone;
    seen = subst (λ ls. NoneTwice (map (λ (l : Link). l.name) ls)) (sym all.seen) (found_once (λ (l : Link). l.name) (link_at K.seen) (own_link K.seen) names (rising_once names named));
    entries = subst (λ es. NoneTwice (map (λ (e : Entry). e.key) es)) (sym all.entries) (found_once (λ (e : Entry). e.key) (entry_at K.entries) (own_entry K.entries) keys (rising_once keys listed));
    stale = subst NoneTwice (sym all.stale) (let_once (λ j. is_stale (first_entry K.entries j)) keys (rising_once keys listed));
    marked = λ k there. subst (λ es. Among (map (λ (e : Entry). e.key) es) k) (sym all.entries) (still_there k (subst (λ ks. Among ks k) all.stale there));
    traces = each_trace;
    chain = λ is. no_chain K.chain (sym all.chain ∙ is);
  }
    where
      each_trace : (w : Way) → EachOnce (batch_traces w (record B { start = Cleared }))
      each_trace Verifying = traces_once Verifying
      each_trace Constructive = traces_once Constructive
      each_trace Deep = traces_once Deep

pub nothing_each : CarriesEach (record empty_batch { start = Cleared })
nothing_each = record { values = tt; gone = refl; seen = tt; entries = tt; stale = tt; marked = λ k nowhere. nowhere; traces = none; chain = λ is. cc }
  where
    none : (w : Way) → EachOnce (batch_traces w (record empty_batch { start = Cleared }))
    none Verifying = tt
    none Constructive = tt
    none Deep = tt
