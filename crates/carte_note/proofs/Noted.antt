-- A batch with what one more finished key brings carries that key.
use Rattle.std.proofs.Common.{◌≡◌, ℕ, Bool, true, false, not, ◌&&◌, ◌||◌, cond, List, [], ◌∷◌, ◌++◌, Option, Some, refl, ap, sym, ◌∙◌, subst, inl, inr, append-nil}
use Rattle.carte_value.specs.declared.digest.Digest.{Digest}
use Rattle.carte_value.specs.declared.link.Link.{Link}
use Rattle.carte_value.specs.declared.value.Value.{Value}
use Rattle.carte_name.specs.Names.{name_eq}
use Rattle.carte_value.proofs.Members.{has_append}
use Rattle.carte_effect.specs.Jobs.{outcome_of}
use Rattle.carte_book.specs.Book.{Book, clean}
use Rattle.carte_record.specs.declared.batch.Batch.{Batch}
use Rattle.carte_record.specs.declared.entry.Entry.{Entry}
use Rattle.carte_record.specs.declared.kept.Kept.{Kept}
use Rattle.carte_record.specs.declared.way.Way.{Way}
use Rattle.carte_record.specs.declared.way.Way.TheVariants.{Verifying, Constructive, Deep}
use Rattle.carte_record.specs.Folds.{batch_traces}
use Rattle.carte_record.specs.Kept.{SomeKept, kept_view, newest, traces_in, put_at}
use Rattle.carte_record.specs.Ways.{TraceBy, eq_by}
use Rattle.carte_table.specs.Lookups.{digest_eq, first_link, first_value}
use Rattle.carte_record.specs.Lookups.{first_entry}
use Rattle.carte_record.proofs.Growing.{traces_on}
use Rattle.carte_sound.specs.Carries.{Carries}
use Rattle.carte_sound.specs.Held.{How}
use Rattle.carte_sound.specs.Left.{add, entry_left, is_kept, is_way, or_first, seen_left}
use Rattle.carte_sound.specs.True.{digest_or, links_to, trace_of}
use Rattle.carte_sound.proofs.Entries.{kept_is}
use Rattle.carte_sound.proofs.Traces.{trace_key}
use Rattle.carte_note.specs.declared.finished.Finished.{Finished}
use Rattle.carte_note.specs.Methods.{is_dirty}
use Rattle.carte_note.specs.Notes.{AreUnmarked, Notes, trace_made}
use Rattle.carte_note.specs.Right.{has_run}
use Rattle.carte_note.specs.Writes.{links_noted, names_in, trace_noted, entry_noted, values_noted, traces_noted, task_made, brings_nothing, with_finished, with_value, all_seen, stays_as, stays, seen_noted, entries_noted, with_run, with_entry}
use Rattle.carte_note.proofs.Entered.{EntriesIn, entered, entries_alike, put_same, entry_self}
use Rattle.carte_note.proofs.Rightly.{Leaves, kept, written, leaves, trace_right}
use Rattle.carte_note.proofs.Seeing.{SeenIn, seen_alike, links_seen, clean_tells, names_linked}
use Rattle.carte_note.proofs.Valued.{ValuesIn, store_at, valued, values_alike}

-- its value
values_more : (ks : List Value) (now : Digest → Option Value) (vs : List Value) (b : Book) (k : List ℕ) (v : Value) (ran : Bool) → clean b k ≡ Some v → ValuesIn (first_value ks) now vs
    → ValuesIn (first_value ks) (λ d. cond (ran && digest_eq d (digest_or (clean b k))) (or_first (now d) (clean b k)) (now d)) (cond ran (with_value ks v vs) vs)
values_more ks now vs b k v true is s = values_alike (first_value ks) (store_at now v) (λ d. cond (digest_eq d (digest_or (clean b k))) (or_first (now d) (clean b k)) (now d)) (with_value ks v vs)
    (λ d. ap (λ o. cond (digest_eq d (digest_or o)) (or_first (now d) o) (now d)) is) (valued ks now vs v s)
values_more ks now vs b k v false is s = s

-- its entry, and the inputs that it names
module _ (b : Book) (K L : SomeKept) (k : List ℕ) (ks : List Link) (e : Entry) where
  seen_more : (ls : List Link) (h : How) (f : Finished) (o : Option Entry) (stay : Bool) → L.entries k ≡ o → Leaves h K b k f o stay e → SeenIn b (first_link ks) L.seen ls
      → SeenIn b (first_link ks) (λ q. cond (is_kept (L.entries k) e) (L.seen q) (seen_left L.seen b e.needs q)) (cond stay ls (all_seen b ks (links_noted h f) ls))
  seen_more ls h f o stay same (kept stays there) s =
      subst (λ t. SeenIn b (first_link ks) (λ q. cond (is_kept (L.entries k) e) (L.seen q) (seen_left L.seen b e.needs q)) (cond t ls (all_seen b ks (links_noted h f) ls))) (sym stays)
      (seen_alike b (first_link ks) L.seen (λ q. cond (is_kept (L.entries k) e) (L.seen q) (seen_left L.seen b e.needs q)) ls
      (λ q. ap (λ t. cond t (L.seen q) (seen_left L.seen b e.needs q)) (ap (λ x. is_kept x e) (same ∙ there) ∙ entry_self e)) s)
  seen_more ls h f o stay same (written tests equal key links) s =
      subst (λ x. SeenIn b (first_link ks) (λ q. cond (is_kept x e) (L.seen q) (seen_left L.seen b e.needs q)) (cond stay ls (all_seen b ks (links_noted h f) ls))) (sym same)
      (subst (λ t. SeenIn b (first_link ks) (λ q. cond (is_kept o e) (L.seen q) (seen_left L.seen b e.needs q)) (cond t ls (all_seen b ks (links_noted h f) ls))) (sym tests) (on (is_kept o e)))
    where
      more : SeenIn b (first_link ks) (seen_left L.seen b (names_in (links_to (clean b) e.needs))) (all_seen b ks (links_to (clean b) e.needs) ls)
      more = links_seen b ks (links_to (clean b) e.needs) L.seen ls s (clean_tells b e.needs)

      on : (t : Bool) → SeenIn b (first_link ks) (λ q. cond t (L.seen q) (seen_left L.seen b e.needs q)) (cond t ls (all_seen b ks (links_noted h f) ls))
      on true = s
      on false = subst (λ ms. SeenIn b (first_link ks) (seen_left L.seen b e.needs) (all_seen b ks ms ls)) (sym links)
          (subst (λ js. SeenIn b (first_link ks) (seen_left L.seen b js) (all_seen b ks (links_to (clean b) e.needs) ls)) (names_linked b e.needs) more)

  entries_more : (es : List Entry) (h : How) (f : Finished) (o : Option Entry) (stay : Bool) → K.entries k ≡ o → L.entries k ≡ o → Leaves h K b k f o stay e → EntriesIn K.entries L.entries es
      → EntriesIn K.entries (put_at L.entries k e) (cond stay es (es ++ entry_noted h (task_made b f) f ∷ []))
  entries_more es h f o stay at same (kept stays there) s =
      subst (λ t. EntriesIn K.entries (put_at L.entries k e) (cond t es (es ++ entry_noted h (task_made b f) f ∷ []))) (sym stays)
      (entries_alike K.entries L.entries (put_at L.entries k e) es (put_same L.entries k e (same ∙ there)) s)
  entries_more es h f o stay at same (written tests equal key links) s =
      subst (λ t. EntriesIn K.entries (put_at L.entries k e) (cond t es (es ++ entry_noted h (task_made b f) f ∷ []))) (sym tests) (on (is_kept o e) refl)
    where
      on : (t : Bool) → is_kept o e ≡ t → EntriesIn K.entries (put_at L.entries k e) (cond t es (es ++ entry_noted h (task_made b f) f ∷ []))
      on true is = entries_alike K.entries L.entries (put_at L.entries k e) es (put_same L.entries k e (same ∙ kept_is o e is)) s
      on false is = subst (λ x. EntriesIn K.entries (put_at L.entries k e) (es ++ x ∷ [])) (sym equal)
          (entered K.entries L.entries es k e s (same ∙ sym at) key (λ there. let t : false ≡ true = sym is ∙ (ap (λ x. is_kept x e) (sym at ∙ there) ∙ entry_self e) in cc))

-- its trace
traces_more : (w : Way) (h : How) (b : Book) (k q : List ℕ) (f : Finished) (ts now old : List (TraceBy w)) (ran : Bool) → (ran ≡ true → is_way h w ≡ true → trace_noted w (task_made b f) f ≡ trace_of w b k) → now ≡ traces_in w q ts old
    → cond ((ran && is_way h w) && name_eq q k) (newest (eq_by w) (trace_of w b k) now) now ≡ traces_in w q (cond (ran && is_way h w) (ts ++ trace_noted w (task_made b f) f ∷ []) ts) old
traces_more w h b k q f ts now old true right is = on (is_way h w) refl
  where
    one_trace : (xs : List (TraceBy w)) → traces_in w q (trace_of w b k ∷ []) xs ≡ cond (name_eq q k) (newest (eq_by w) (trace_of w b k) xs) xs
    one_trace xs = ap (λ j. cond (name_eq q j) (newest (eq_by w) (trace_of w b k) xs) xs) (trace_key w b k)

    on : (t : Bool) → is_way h w ≡ t → cond (t && name_eq q k) (newest (eq_by w) (trace_of w b k) now) now ≡ traces_in w q (cond t (ts ++ trace_noted w (task_made b f) f ∷ []) ts) old
    on true way =
        ap (λ xs. cond (name_eq q k) (newest (eq_by w) (trace_of w b k) xs) xs) is
        ∙ sym (ap (λ t. traces_in w q (ts ++ t ∷ []) old) (right refl way) ∙ traces_on w q ts (trace_of w b k ∷ []) old ∙ one_trace (traces_in w q ts old))
    on false way = is
traces_more w h b k q f ts now old false right is = is

traces_by : (w : Way) (h : How) (b : Book) (K : Kept) (f : Finished) (B : Batch) → batch_traces w (with_entry h b K f (with_run h b K f B)) ≡ traces_noted h w b f (batch_traces w B)
traces_by Verifying h b K f B = refl
traces_by Constructive h b K f B = refl
traces_by Deep h b K f B = refl

traces_end : (w : Way) (h : How) (b : Book) (k : List ℕ) (f : Finished) (ts : List (TraceBy w)) (t : Bool) → (t ≡ true → trace_noted w (task_made b f) f ≡ trace_of w b k) → cond t (ts ++ trace_noted w (task_made b f) f ∷ []) ts ≡ ts ++ cond t (trace_of w b k ∷ []) []
traces_end w h b k f ts true right = ap (λ t. ts ++ t ∷ []) (right refl)
traces_end w h b k f ts false right = sym (append-nil ts)

both_true : (a c : Bool) → (a && c) ≡ true → (a ≡ true) × (c ≡ true)
both_true true c is = (refl, is)
both_true false c is = cc

-- all of it
pub noted : (h : How) (K : Kept) (b : Book) (f : Finished) (old : Batch) → Notes h (kept_view K) b f old (with_entry h b K f (with_run h b K f old))
noted h K b f old L k now c same right = record { carries = carries; traces = traces }
  where
    e : Entry
    e = entry_left h L b k

    o : Option Entry
    o = first_entry K.entries k

    key_stays : (is_dirty h && not (has_run f.made)) || stays_as h o (entry_noted h (task_made b f) f) ≡ stays h K (task_made b f) f
    key_stays = ap (λ j. (is_dirty h && not (has_run f.made)) || stays_as h (first_entry K.entries j) (entry_noted h (task_made b f) f)) (sym right.made.key)

    left_by : Leaves h (kept_view K) b k f o (stays h K (task_made b f) f) (entry_left h L b k)
    left_by = subst (λ t. Leaves h (kept_view K) b k f o t (entry_left h L b k)) key_stays (leaves h (kept_view K) L b k f o now refl same right)

    values : ValuesIn (first_value K.values) (add h b L k (has_run f.made)).stored (values_noted K.values f old.values)
    values = values_more K.values L.stored old.values b k (outcome_of f.made).value (has_run f.made) right.made.value (record { values = c.values; lacked = c.values_lacked; once = c.values_once })

    seen : SeenIn b (first_link K.seen) (add h b L k (has_run f.made)).seen (seen_noted h b K f old.seen)
    seen = seen_more b (kept_view K) L k K.seen (entry_left h L b k) old.seen h f o (stays h K (task_made b f) f) same left_by (record { seen = c.seen; differs = c.seen_differs; is_present = c.seen_present; once = c.seen_once })

    entries : EntriesIn (first_entry K.entries) (add h b L k (has_run f.made)).entries (entries_noted h b K f old.entries)
    entries = entries_more b (kept_view K) L k K.seen (entry_left h L b k) old.entries h f o (stays h K (task_made b f) f) refl same left_by (record { entries = c.entries; differ = c.entries_differ; once = c.entries_once })

    carries : Carries b (kept_view K) (add h b L k (has_run f.made)) (with_entry h b K f (with_run h b K f old))
    carries = record {
      values = values.values;
      values_lacked = values.lacked;
      values_once = values.once;
      seen = seen.seen;
      seen_differs = seen.differs;
      seen_present = seen.is_present;
      seen_once = seen.once;
      entries = entries.entries;
      entries_differ = entries.differ;
      entries_once = entries.once;
      traces = λ w q. traces_more w h b k q f (batch_traces w old) (L.traces w q) ((kept_view K).traces w q) (has_run f.made) (trace_right h w (kept_view K) b k f right) (c.traces w q)
          ∙ ap (λ ts. traces_in w q ts ((kept_view K).traces w q)) (sym (traces_by w h b K f old));
      chain = c.chain;
      chain_differs = c.chain_differs;
    }

    traces : (w : Way) → batch_traces w (with_entry h b K f (with_run h b K f old)) ≡ batch_traces w old ++ trace_made h b k f w
    traces w = traces_by w h b K f old ∙ traces_end w h b k f (batch_traces w old) (has_run f.made && is_way h w) (λ is. let both = both_true (has_run f.made) (is_way h w) is in trace_right h w (kept_view K) b k f right both.0 both.1)

-- no entry that is written is stale
pub unmarked : (h : How) (b : Book) (K : Kept) (f : Finished) (es : List Entry) → AreUnmarked es → AreUnmarked (entries_noted h b K f es)
unmarked h b K f es are = on (stays h K (task_made b f) f)
  where
    on : (t : Bool) → AreUnmarked (cond t es (es ++ entry_noted h (task_made b f) f ∷ []))
    on true e has = are e has
    on false e has = elim (has_append es (entry_noted h (task_made b f) f ∷ []) e has) [
      | inl before ↦ are e before
      | inr new ↦ elim new [
        | inl is ↦ ap (λ (x : Entry). x.stale) is
        | inr nowhere ↦ absurd nowhere
      ]
    ]

-- a key that is held by marks alone brings nothing
pub nothing_noted : (h : How) (b : Book) (K : Kept) (f : Finished) (B : Batch) → brings_nothing h f ≡ true → B ≡ with_finished h b K f B
nothing_noted h b K f B is = on (is_dirty h) (has_run f.made) refl refl is
  where
    on : (d r : Bool) → is_dirty h ≡ d → has_run f.made ≡ r → (d && not r) ≡ true → B ≡ with_finished h b K f B
    on true true dirty ran is = cc
    on true false dirty ran is = rw (dirty, ran) refl
    on false r dirty ran is = cc
