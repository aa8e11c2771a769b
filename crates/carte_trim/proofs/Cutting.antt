-- What the cut batch makes is what is kept, trimmed.
use Rattle.std.proofs.Common.{◌≡◌, ◌⊎◌, ℕ, Bool, true, false, List, [], ◌∷◌, Option, Some, None, refl, ap, sym, ◌∙◌, subst, inl, inr}
use Rattle.std.specs.Prelude.{◌||◌, if◌then◌else◌, option_map, unwrap_or}
use Rattle.std.specs.List.{list_any}
use Rattle.std.specs.Option.{option_or}
use Rattle.carte_value.specs.declared.digest.Digest.{Digest}
use Rattle.carte_value.specs.declared.value.Value.{Value}
use Rattle.carte_value.specs.Lists.{Has}
use Rattle.carte_table.specs.Lookups.{digest_eq, find_last, first_value, link_in}
use Rattle.carte_table.proofs.Found.{or_none}
use Rattle.carte_table.proofs.Names.{name_eq_is}
use Rattle.carte_record.specs.declared.batch.Batch.{Batch}
use Rattle.carte_record.specs.declared.entry.Entry.{Entry}
use Rattle.carte_record.specs.declared.kept.Kept.{Kept}
use Rattle.carte_record.specs.declared.trace.Trace.{Trace}
use Rattle.carte_record.specs.declared.deep_trace.DeepTrace.{DeepTrace}
use Rattle.carte_record.specs.declared.way.Way.{Way}
use Rattle.carte_record.specs.declared.way.Way.TheVariants.{Verifying, Constructive, Deep}
use Rattle.carte_record.specs.declared.start.Start.{Start}
use Rattle.carte_record.specs.declared.start.Start.TheVariants.{Cleared, GoOn}
use Rattle.carte_record.specs.Folds.{applied, apply, batch_traces, carried, is_among, started}
use Rattle.carte_record.specs.Growth.{put_in}
use Rattle.carte_record.specs.Kept.{SomeKept, kept_view, nothing_kept, staled, traces_in}
use Rattle.carte_record.specs.Lookups.{entry_in, first_entry, is_entry_of}
use Rattle.carte_record.specs.Ways.{TraceBy, key_by, result_by}
use Rattle.carte_record.specs.Marked.{marked_as}
use Rattle.carte_record.proofs.Gone.{dropping_none}
use Rattle.carte_record.proofs.Looked.{digest_eq_is, digest_eq_self, find_passes}
use Rattle.carte_sound.specs.Lists.{EachOnce}
use Rattle.carte_compact.specs.Live.{IsLive, IsSomeLive, entry_at, found_at, put}
use Rattle.carte_compact.proofs.Found.{each_found, unlisted}
use Rattle.carte_compact.proofs.Living.{is_kept, kept_again}
use Rattle.carte_trim.specs.declared.cut.Counts.{Counts}
use Rattle.carte_trim.specs.Lists.{AreCut, IsCut, in_batch, in_entries, in_traces, newest_of, number_in}
use Rattle.carte_trim.specs.Trimmed.{IsNamed, IsNumberOf, IsTrimmed, by_entry, by_trace}
use Rattle.carte_trim.proofs.Once.{last_by, newest_once, taken_by, there_by, was_by}
use Rattle.carte_trim.proofs.Trims.{nothing_newest, unmarked_named}

-- ---- digests that are named in lists

named_item : {A : Type 0} (result : A → Digest) (xs : List A) (d : Digest) → list_any (λ x. digest_eq d (result x)) xs ≡ true → (x : A) × Has xs x × (result x ≡ d)
named_item result [] d is = absurd (cc)
named_item {A = A} result (x ∷ xs) d is = on (digest_eq d (result x)) refl is (named_item result xs d)
  where
    on : (b : Bool) → digest_eq d (result x) ≡ b → b || list_any (λ y. digest_eq d (result y)) xs ≡ true
        → (list_any (λ y. digest_eq d (result y)) xs ≡ true → (y : A) × Has xs y × (result y ≡ d)) → (y : A) × Has (x ∷ xs) y × (result y ≡ d)
    on true same is rest = (x, inl refl, sym (digest_eq_is d (result x) same))
    on false other is rest = let (y, has, same) = rest is in (y, inr has, same)

item_named : {A : Type 0} (result : A → Digest) (xs : List A) (x : A) → Has xs x → list_any (λ y. digest_eq (result x) (result y)) xs ≡ true
item_named result [] x has = absurd has
item_named result (y ∷ ys) x (inl is) = rw (subst (λ z. digest_eq (result x) (result z) ≡ true) is (digest_eq_self (result x))) refl
item_named result (y ∷ ys) x (inr has) = on (digest_eq (result x) (result y)) (item_named result ys x has)
  where
    on : (b : Bool) → list_any (λ z. digest_eq (result x) (result z)) ys ≡ true → b || list_any (λ z. digest_eq (result x) (result z)) ys ≡ true
    on true rest = refl
    on false rest = rest

or_left : (b c : Bool) → b ≡ true → b || c ≡ true
or_left true c is = refl
or_left false c is = absurd (cc)

or_right : (b c : Bool) → c ≡ true → b || c ≡ true
or_right true c is = refl
or_right false c is = is

or_either : (b c : Bool) → b || c ≡ true → (b ≡ true) ⊎ (c ≡ true)
or_either true c is = inl refl
or_either false c is = inr is

last_has : {A : Type 0} (p : A → Bool) (xs : List A) (x : A) → find_last p xs ≡ Some x → Has xs x
last_has p [] x is = absurd (cc)
last_has {A = A} p (y ∷ ys) x is = on (find_last p ys) refl (p y) (λ there. last_has p ys x there) is
  where
    on : (o : Option A) → find_last p ys ≡ o → (b : Bool) → (find_last p ys ≡ Some x → Has ys x) → option_or o (if b then Some y else None) ≡ Some x → Has (y ∷ ys) x
    on (Some z) there b rest same = inr (rest (there ∙ same))
    on None there true rest same = inl (let is : y ≡ x = cc in sym is)
    on None there false rest same = absurd (cc)

found_has : {A : Type 0} (f : List ℕ → Option A) (ns : List (List ℕ)) (x : A) → Has (found_at f ns) x → (n : List ℕ) × (f n ≡ Some x)
found_has f [] x has = absurd has
found_has {A = A} f (n ∷ ns) x has = on (f n) refl (λ later. found_has f ns x later) has
  where
    on : (o : Option A) → f n ≡ o → (Has (found_at f ns) x → (m : List ℕ) × (f m ≡ Some x)) → Has (put o (found_at f ns)) x → (m : List ℕ) × (f m ≡ Some x)
    on None there rest later = rest later
    on (Some y) there rest (inl is) = (n, there ∙ ap Some (sym is))
    on (Some y) there rest (inr later) = rest later

-- ---- the batch

started_none : (s : Start) → started s nothing_kept ≡ nothing_kept
started_none GoOn = refl
started_none Cleared = refl

-- what a batch makes of nothing
made_of : (B : Batch) → B.gone ≡ [] → apply B nothing_kept ≡ put_in B nothing_kept
made_of B gone = ap (carried B) (started_none B.start) ∙ dropping_none B nothing_kept gone

-- over a batch in which each trace stands once, and of which each entry is found
module _ (n : ℕ) (B C : Batch) (cut : IsCut n B C) (once : (w : Way) → EachOnce (batch_traces w B))
    (found : (e : Entry) → Has B.entries e → (k : List ℕ) × (entry_in B.entries k ≡ Some e)) where
  abbrev K : SomeKept
  K = put_in B nothing_kept

  abbrev L : SomeKept
  L = put_in C nothing_kept

  cut_by : (w : Way) → batch_traces w C ≡ newest_of (key_by w) n (batch_traces w B)
  cut_by Verifying = cut.verifying
  cut_by Constructive = cut.constructive
  cut_by Deep = cut.deep

  once_too : (w : Way) → EachOnce (batch_traces w C)
  once_too w = subst EachOnce (sym (cut_by w)) (newest_once (key_by w) n (batch_traces w B) (once w))

  trace_named : (w : Way) (t : TraceBy w) → Has (batch_traces w C) t → in_batch C (result_by w t) ≡ true
  trace_named Verifying t has = or_left _ _ (or_left _ _ (or_right _ _ (item_named (λ (u : Trace). u.result) C.verifying t has)))
  trace_named Constructive t has = or_left _ _ (or_right _ _ (item_named (λ (u : Trace). u.result) C.constructive t has))
  trace_named Deep t has = or_right _ _ (item_named (λ (u : DeepTrace). u.result) C.deep t has)

  entry_named : (e : Entry) → Has C.entries e → in_batch C e.result ≡ true
  entry_named e has = or_left _ _ (or_left _ _ (or_left _ _ (item_named (λ (f : Entry). f.result) C.entries e has)))

  in_batch_named : (d : Digest) → IsNamed L d → in_batch C d ≡ true
  in_batch_named d (by_entry k e is) =
      let (f, there, same) = unmarked_named (option_or (entry_in C.entries k) None) (is_among C.stale k) e is in
      let has : Has C.entries f = last_has (is_entry_of k) C.entries f (sym (or_none (entry_in C.entries k)) ∙ there) in
      subst (λ r. in_batch C r ≡ true) same (entry_named f has)
  in_batch_named d (by_trace w k t has) = trace_named w t (was_by w k (batch_traces w C) t (once_too w) has)

  from_traces : (w : Way) (d : Digest) → in_traces w (batch_traces w C) d ≡ true → IsNamed L d
  from_traces w d is =
      let (t, has, same) = named_item (result_by w) (batch_traces w C) d is in
      subst (IsNamed L) same (by_trace w (key_by w t) t (there_by w (batch_traces w C) t (once_too w) has))

  from_entries : (d : Digest) → in_entries C.entries d ≡ true → IsNamed L d
  from_entries d is =
      let (e, has, same) = named_item (λ (f : Entry). f.result) C.entries d is in
      let (k, there) = found e (subst (λ es. Has es e) cut.entries has) in
      let marked : L.entries k ≡ Some (staled (is_among C.stale k) e) =
      ap (option_map (staled (is_among C.stale k))) (or_none (entry_in C.entries k) ∙ ap (λ es. entry_in es k) cut.entries ∙ there) in
      subst (IsNamed L) same (by_entry k (staled (is_among C.stale k) e) marked)

  named_in_batch : (d : Digest) → in_batch C d ≡ true → IsNamed L d
  named_in_batch d is = elim (or_either ((in_entries C.entries d || in_traces Verifying C.verifying d) || in_traces Constructive C.constructive d) (in_traces Deep C.deep d) is) [
    | inr deep ↦ from_traces Deep d deep
    | inl front ↦ elim (or_either (in_entries C.entries d || in_traces Verifying C.verifying d) (in_traces Constructive C.constructive d) front) [
      | inr constructive ↦ from_traces Constructive d constructive
      | inl first ↦ elim (or_either (in_entries C.entries d) (in_traces Verifying C.verifying d) first) [
        | inr verifying ↦ from_traces Verifying d verifying
        | inl entries ↦ from_entries d entries
      ]
    ]
  ]

  stored_there : (d : Digest) → in_batch C d ≡ true → first_value C.values d ≡ first_value B.values d
  stored_there d is = cut.values d ∙ ap (λ b. if b then first_value B.values d else None) is

  only_there : (d : Digest) (v : Value) (b : Bool) → in_batch C d ≡ b → (if b then first_value B.values d else None) ≡ Some v → IsNamed L d × (first_value B.values d ≡ Some v)
  only_there d v true named is = (named_in_batch d named, is)
  only_there d v false named is = absurd (cc)

  pub put_trimmed : IsTrimmed K n L
  put_trimmed = record {
    newest = record {
      seen = ap (λ ls. λ (k : List ℕ). option_or (link_in ls k) None) cut.seen;
      entries = λ i. λ k. option_map (staled (is_among (cut.stale i) k)) (option_or (entry_in (cut.entries i) k) None);
      traces = λ w k. ap (λ ts. traces_in w k ts []) (cut_by w) ∙ taken_by w n k (batch_traces w B) (once w);
      chain = ap (λ o. unwrap_or o []) cut.chain;
      named = λ d named. stored_there d (in_batch_named d named);
    };
    only = λ d v there. only_there d v (in_batch C d) refl (sym (cut.values d) ∙ there);
  }

-- how many traces it has
number_of : (B : Batch) → ((w : Way) → EachOnce (batch_traces w B)) → IsNumberOf (put_in B nothing_kept) (number_in B)
number_of B once = record {
  lists = λ w. batch_traces w B;
  listed = λ w. record { once = once w; each = λ t has. there_by w (batch_traces w B) t (once w) has; all = λ k t has. was_by w k (batch_traces w B) t (once w) has };
  sum = refl;
}

nothing_counts : IsNumberOf nothing_kept 0
nothing_counts = record { lists = λ w. []; listed = λ w. record { once = tt; each = λ t has. absurd has; all = λ k t has. absurd has }; sum = refl }

nothing_trimmed : (n : ℕ) → IsTrimmed nothing_kept n nothing_kept
nothing_trimmed n = record { newest = nothing_newest n; only = λ d v there. absurd (cc) }

-- ---- all of it

abbrev pub Comes : Kept → ℕ → List Batch → Counts → Type 0
Comes K n Cs c = IsTrimmed (kept_view K) n (applied nothing_kept Cs) × IsNumberOf (kept_view K) c.before × IsNumberOf (applied nothing_kept Cs) c.after

module _ (K : Kept) (n : ℕ) (Bs Cs : List Batch) (c : Counts) (live : IsSomeLive K Bs) (cut : AreCut n Bs Cs c) where
  abbrev B : Batch
  B = live.first

  once : (w : Way) → EachOnce (batch_traces w B)
  once Verifying = subst EachOnce (sym live.all.verifying) (last_by Verifying K.verifying)
  once Constructive = subst EachOnce (sym live.all.constructive) (last_by Constructive K.constructive)
  once Deep = subst EachOnce (sym live.all.deep) (last_by Deep K.deep)

  own_entry : (k : List ℕ) (e : Entry) → entry_at K.entries k ≡ Some e → e.key ≡ k
  own_entry k e is = on (first_entry K.entries k) refl is
    where
      on : (o : Option Entry) → first_entry K.entries k ≡ o → option_map (marked_as false) o ≡ Some e → e.key ≡ k
      on None found is = absurd (cc)
      on (Some f) found is =
          let same : marked_as false f ≡ e = cc in
          sym (ap (λ (g : Entry). g.key) same) ∙ sym (name_eq_is k f.key (find_passes (is_entry_of k) K.entries f found))

  found : (e : Entry) → Has B.entries e → (k : List ℕ) × (entry_in B.entries k ≡ Some e)
  found e has =
      let (k, there) = found_has (entry_at K.entries) live.keys e (subst (λ es. Has es e) live.all.entries has) in (
        k,
        ap (λ es. entry_in es k) live.all.entries
            ∙ each_found (λ (f : Entry). f.key) (entry_at K.entries) own_entry live.keys k (λ apart. ap (option_map (marked_as false)) (unlisted (λ (f : Entry). f.key) K.entries live.keys k live.listed apart))
            ∙ there,
      )

  comes_of : (C : Batch) → IsCut n B C → Cs ≡ C ∷ [] → c.before ≡ number_in B → c.after ≡ number_in C → Comes K n Cs c
  comes_of C is only before after =
      let old : put_in B nothing_kept ≡ kept_view K = sym (made_of B live.all.gone) ∙ kept_again K live.names live.keys live.seen live.listed B live.all in
      let new : put_in C nothing_kept ≡ applied nothing_kept Cs = sym (made_of C (is.gone ∙ live.all.gone)) ∙ ap (applied nothing_kept) (sym only) in (
        subst (λ M. IsTrimmed M n (applied nothing_kept Cs)) old (subst (λ M. IsTrimmed (put_in B nothing_kept) n M) new (put_trimmed n B C is once found)),
        subst (IsNumberOf (kept_view K)) (sym before) (subst (λ M. IsNumberOf M (number_in B)) old (number_of B once)),
        subst (IsNumberOf (applied nothing_kept Cs)) (sym after) (subst (λ M. IsNumberOf M (number_in C)) new (number_of C (once_too n B C is once found))),
      )

  pub some_comes : Comes K n Cs c
  some_comes =
      let (C, only, is, before, after) = subst (λ Ds. AreCut n Ds Cs c) live.batches cut in
      comes_of C is only before after

pub comes : (K : Kept) (n : ℕ) (Bs Cs : List Batch) (c : Counts) → IsLive K Bs → AreCut n Bs Cs c → Comes K n Cs c
comes K n Bs Cs c (inr (some, live)) cut = some_comes K n Bs Cs c live cut
comes K n Bs Cs c (inl (bare, none)) cut =
    let (nothing, before, after) = subst (λ Ds. AreCut n Ds Cs c) none cut in
    let old : nothing_kept ≡ kept_view K = is_kept K [] (inl (bare, refl)) in
    let new : nothing_kept ≡ applied nothing_kept Cs = ap (applied nothing_kept) (sym nothing) in (
      subst (λ M. IsTrimmed M n (applied nothing_kept Cs)) old (subst (λ M. IsTrimmed nothing_kept n M) new (nothing_trimmed n)),
      subst (IsNumberOf (kept_view K)) (sym before) (subst (λ M. IsNumberOf M 0) old nothing_counts),
      subst (IsNumberOf (applied nothing_kept Cs)) (sym after) (subst (λ M. IsNumberOf M 0) new nothing_counts),
    )
