-- What a build begins with is sound, and its fresh entries are true of the present book.
use Rattle.std.proofs.Common.{◌≡◌, ℕ, Bool, true, false, cond, List, [], Option, Some, None, option_map, refl, ap, sym, ◌∙◌, inl, inr, subst}
use Rattle.carte_value.specs.declared.digest.Digest.{Digest}
use Rattle.carte_value.specs.declared.value.Value.{Value}
use Rattle.carte_value.specs.Lists.{Has}
use Rattle.carte_value.specs.Spelling.{digest_of}
use Rattle.carte_value.specs.Truths.{Among}
use Rattle.carte_tree.specs.Tree.{Tree}
use Rattle.carte_tree.specs.Meaning.{fetched}
use Rattle.carte_book.specs.Book.{Item, input, rule, Book, content, clean}
use Rattle.carte_book.specs.Edits.{IsInput}
use Rattle.carte_book.specs.Needs.{IsRule, needs, needs_of}
use Rattle.carte_book.specs.Task.{task_digest_of, task_now}
use Rattle.carte_book.proofs.Clean.{clean_input}
use Rattle.carte_record.specs.declared.entry.Entry.{Entry}
use Rattle.carte_record.specs.Ways.{TraceBy}
use Rattle.carte_record.specs.declared.way.Way.{Way}
use Rattle.carte_record.specs.Folds.{is_among}
use Rattle.carte_record.specs.Kept.{SomeKept, is_fresh, staled}
use Rattle.carte_sound.specs.Marks as marks
use Rattle.carte_sound.specs.Marks.{IsFresh, Leads, need, on, digest_in, present, IsChanged, Comes}
use Rattle.carte_sound.specs.Begun as dropped
use Rattle.carte_sound.specs.Begun.{IsGone, Beginning, IsBeginning, begin}
use Rattle.carte_sound.specs.Beneath.{beneath}
use Rattle.carte_sound.specs.True.{IsEntryOf}
use Rattle.carte_sound.specs.Sound.{IsFreshIn, IsEntryOfSome, IsSound}
use Rattle.carte_sound.specs.Base.{HasDistinctDigests}
use Rattle.carte_sound.proofs.Tests.{same_or_not, not_among, among_tested, staled_from, staled_fresh, fresh_parts}
use Rattle.carte_sound.proofs.Tasks.{rule_or_not, input_or_not, rule_of_task, same_task}
use Rattle.carte_sound.proofs.Fresh.{IsTrue}

-- an input whose digest is present has a value with it
pub present_input : (b : Book) (i : List ℕ) (d : Digest) → present b i ≡ Some d → (v : Value) × (content b i ≡ Some (input v)) × (digest_of v ≡ d)
present_input b i d = on_item (content b i)
  where
    on_item : (o : Option Item) → digest_in o ≡ Some d → (v : Value) × (o ≡ Some (input v)) × (digest_of v ≡ d)
    on_item None is = cc
    on_item (Some (input v)) is = (v, refl, (let same : digest_of v ≡ d = cc in same))
    on_item (Some (rule e)) is = cc

-- a name is no input and a rule at once
pub not_both : (b : Book) (i : List ℕ) (v : Value) (e : Tree) → content b i ≡ Some (input v) → content b i ≡ Some (rule e) → ⊥
not_both b i v e is other = cc

-- what a build begins with was kept before, and wasn't dropped
module _ (K : SomeKept) (x : Beginning) where
  pub entry_before : (k : List ℕ) (e : Entry) → (begin K x).entries k ≡ Some e → (is_among x.gone k ≡ false) × (d : Entry) × (K.entries k ≡ Some d) × (e ≡ staled (is_among x.marks k) d)
  entry_before k e = on_test (is_among x.gone k) refl
    where
      on_test : (t : Bool) → is_among x.gone k ≡ t → cond t None (option_map (staled (is_among x.marks k)) (K.entries k)) ≡ Some e → (is_among x.gone k ≡ false) × (d : Entry) × (K.entries k ≡ Some d) × (e ≡ staled (is_among x.marks k) d)
      on_test true is kept = cc
      on_test false is kept = let from = staled_from (is_among x.marks k) (K.entries k) e kept in (is, from.0, from.1, from.2)

  pub seen_before : (i : List ℕ) (d : Digest) → (begin K x).seen i ≡ Some d → (is_among x.gone i ≡ false) × (K.seen i ≡ Some d)
  seen_before i d = on_test (is_among x.gone i) refl
    where
      on_test : (t : Bool) → is_among x.gone i ≡ t → cond t None (K.seen i) ≡ Some d → (is_among x.gone i ≡ false) × (K.seen i ≡ Some d)
      on_test true is seen = cc
      on_test false is seen = (is, seen)

  pub trace_before : (w : Way) (k : List ℕ) (t : TraceBy w) → Has ((begin K x).traces w k) t → (is_among x.gone k ≡ false) × Has (K.traces w k) t
  trace_before w k t = on_test (is_among x.gone k) refl
    where
      on_test : (s : Bool) → is_among x.gone k ≡ s → Has (cond s [] (K.traces w k)) t → (is_among x.gone k ≡ false) × Has (K.traces w k) t
      on_test true is there = absurd there
      on_test false is there = (is, there)

  -- and what isn't dropped is there
  pub entry_there : (k : List ℕ) (e : Entry) → is_among x.gone k ≡ false → K.entries k ≡ Some e → (begin K x).entries k ≡ Some (staled (is_among x.marks k) e)
  entry_there k e stays kept = ap (λ t. cond t None (option_map (staled (is_among x.marks k)) (K.entries k))) stays ∙ ap (option_map (staled (is_among x.marks k))) kept

  pub seen_there : (i : List ℕ) (d : Digest) → is_among x.gone i ≡ false → K.seen i ≡ Some d → (begin K x).seen i ≡ Some d
  seen_there i d stays seen = ap (λ t. cond t None (K.seen i)) stays ∙ seen

  pub trace_there : (w : Way) (k : List ℕ) (t : TraceBy w) → is_among x.gone k ≡ false → Has (K.traces w k) t → Has ((begin K x).traces w k) t
  trace_there w k t stays there = subst (λ s. Has (cond s [] (K.traces w k)) t) (sym stays) there

  -- what a key leads to then, it led to before
  pub leads_back : (k i : List ℕ) → Leads (begin K x) k i → Leads K k i
  leads_back k i (need e kept among) =
      let from = entry_before k e kept in
      need from.1 from.2 (subst (λ (y : Entry). Among y.needs i) from.3 among)
  leads_back k i (on {i = j} e kept among leads) =
      let from = entry_before k e kept in
      on from.1 from.2 (subst (λ (y : Entry). Among y.needs j) from.3 among) (leads_back j i leads)

-- a fresh entry whose key isn't marked
record IsLeft (K : SomeKept) (x : Beginning) (k : List ℕ) (e : Entry) : Type 0 where
  kept : K.entries k ≡ Some e
  fresh : is_fresh e ≡ true
  apart : is_among x.marks k ≡ false

module _ (K : SomeKept) (H : List Book) (b : Book) (sound : IsSound K H) (stands : Has H b) (distinct : HasDistinctDigests H) (x : Beginning) (begins : IsBeginning K b x) where
  -- a seen input isn't dropped, nor is a rule with an entry
  input_stays : (i : List ℕ) (d : Digest) → K.seen i ≡ Some d → IsInput b i → is_among x.gone i ≡ false
  input_stays i d seen is_input = not_among x.gone i (λ among. not_gone (begins.gone.only i among))
    where
      not_gone : IsGone K b i → ⊥
      not_gone (dropped.IsGone.seen c at none) = none is_input
      not_gone (dropped.IsGone.entry e at none) = sound.apart i d e seen at

  rule_stays : (k : List ℕ) (e : Entry) → K.entries k ≡ Some e → IsRule b k → is_among x.gone k ≡ false
  rule_stays k e kept is_rule = not_among x.gone k (λ among. not_gone (begins.gone.only k among))
    where
      not_gone : IsGone K b k → ⊥
      not_gone (dropped.IsGone.seen d at none) = sound.apart k d e at kept
      not_gone (dropped.IsGone.entry c at none) = none is_rule

  -- nothing that such an entry's key comes to has changed
  unchanged : (k : List ℕ) (e : Entry) → IsLeft K x k e → (i : List ℕ) → Comes K k i → IsChanged K b i → ⊥
  unchanged k e l i comes changed =
      let among : Among x.marks k = begins.marks.each k (record { entry = e; kept = l.kept; unmarked = (fresh_parts e l.fresh).0; name = i; leads = comes; changed = changed }) in
      let t : is_among x.marks k ≡ true = among_tested x.marks k among in
      let f : is_among x.marks k ≡ false = l.apart in
      cc

  seen_still : (k : List ℕ) (e : Entry) → IsLeft K x k e → (i : List ℕ) → Comes K k i → (d : Digest) → K.seen i ≡ Some d → present b i ≡ Some d
  seen_still k e l i comes d seen = elim (same_or_not (present b i) d) [
    | inl is ↦ is
    | inr differs ↦ absurd (unchanged k e l i comes (marks.IsChanged.seen d seen differs))
  ]

  task_still : (k : List ℕ) (e : Entry) → IsLeft K x k e → (i : List ℕ) → Comes K k i → (f : Entry) → K.entries i ≡ Some f → task_now b i ≡ Some f.task
  task_still k e l i comes f kept = elim (same_or_not (task_now b i) f.task) [
    | inl is ↦ is
    | inr differs ↦ absurd (unchanged k e l i comes (marks.IsChanged.task f kept differs))
  ]

  -- an input that was seen and hasn't changed has the value that it had
  still_input : (c : Book) → Has H c → (i : List ℕ) (v : Value) → content c i ≡ Some (input v) → present b i ≡ Some (digest_of v) → content b i ≡ Some (input v)
  still_input c in_c i v there is =
      let now = present_input b i (digest_of v) is in
      let equal : now.0 ≡ v = distinct.values b c i i now.0 v stands in_c (clean_input b i now.0 now.1) (clean_input c i v there) now.2 in
      now.1 ∙ ap (λ y. Some (input y)) equal

  -- the entry's own book has what the present one has, at the key
  agree_here : (c : Book) → Has H c → (k : List ℕ) (e : Entry) → IsLeft K x k e → (t : IsEntryOf c k e) → (c.kind ≡ b.kind) × (content b k ≡ Some (rule t.formula))
  agree_here c in_c k e l t = same_task H distinct c b in_c stands k t.formula t.is_rule (task_still k e l k (inl refl) e l.kept ∙ ap Some t.task)

  -- and at all that it leads to
  agree_beyond : (c : Book) → Has H c → (k : List ℕ) (e : Entry) → IsLeft K x k e → IsFreshIn K c k e → (i : List ℕ) → Leads K k i → content c i ≡ content b i
  agree_beyond c in_c k e l f i leads = elim (f.names i leads) [
    | inl s ↦ s.is_input ∙ sym (still_input c in_c i s.value s.is_input (seen_still k e l i (inr leads) (digest_of s.value) s.seen))
    | inr r ↦
        let g = rule_of_task c i r.entry.task r.task in
        let now = task_still k e l i (inr leads) r.entry r.kept in
        g.1 ∙ sym (same_task H distinct c b in_c stands i g.0 g.1 (now ∙ ap Some (sym g.2))).1
  ]

  -- a fresh entry of a need is still fresh
  fresh_need : (k : List ℕ) (e : Entry) → IsLeft K x k e → (j : List ℕ) → Among e.needs j → IsRule b j → IsFresh K j → IsFresh (begin K x) j
  fresh_need k e l j among is_rule r = record {
    entry = r.entry;
    kept = entry_there K x j r.entry (rule_stays j r.entry r.kept is_rule) r.kept ∙ ap (λ m. Some (staled m r.entry)) (not_among x.marks j unmarked);
    fresh = r.fresh;
  }
    where
      comes_on : (i : List ℕ) → Comes K j i → Comes K k i
      comes_on i (inl same) = inr (subst (Leads K k) (sym same) (need e l.kept among))
      comes_on i (inr leads) = inr (on e l.kept among leads)

      unmarked : Among x.marks j → ⊥
      unmarked marked = let m = begins.marks.only j marked in unchanged k e l m.name (comes_on m.name m.leads) m.changed

  -- what is fresh then was so before, and isn't marked
  fresh_before : (k : List ℕ) (e : Entry) → (begin K x).entries k ≡ Some e → is_fresh e ≡ true → IsLeft K x k e
  fresh_before k e kept fresh =
      let from = entry_before K x k e kept in
      let parts = staled_fresh (is_among x.marks k) from.1 (subst (λ y. is_fresh y ≡ true) from.3 fresh) in
      let equal : e ≡ from.1 = from.3 ∙ ap (λ m. staled m from.1) parts.0 in
      record { kept = from.2 ∙ ap Some (sym equal); fresh = fresh; apart = parts.0 }

  -- so the entry is true of its own book, which agrees with the present one
  pub begun_true : (k : List ℕ) (e : Entry) → (begin K x).entries k ≡ Some e → is_fresh e ≡ true → IsTrue (begin K x) b k e
  begun_true k e kept fresh =
      let l = fresh_before k e kept fresh in
      let s = sound.entries k e l.kept in
      let c = s.book in
      let f = s.entry.formula in
      let at = agree_here c s.stood k e l s.entry in
      let in_c = s.fresh fresh in
      record {
        book = c;
        agree = record { kind = at.0; here = s.entry.is_rule ∙ sym at.1; beyond = λ i leads. agree_beyond c s.stood k e l in_c i (leads_back K x k i leads) };
        formula = f;
        is_rule = at.1;
        value = s.entry.value;
        ends = s.entry.clean;
        key = s.entry.key;
        task = s.entry.task ∙ ap (λ q. task_digest_of q f) at.0;
        result = s.entry.result;
        needs = full e (beneath c k) (needs c k) s.entry.needs (fresh_parts e fresh).1 ∙ ap (λ o. needs_of o (λ g. fetched c.kind (clean c) g)) s.entry.is_rule ∙ ap (λ q. fetched q (clean c) f) at.0;
        seen = λ i v among is. seen_input c in_c i v (need e l.kept among) (agree_beyond c s.stood k e l in_c i (need e l.kept among) ∙ is) is;
        rules = λ j among is_rule. fresh_need k e l j among is_rule (in_c.rules j among (is_rule.0, agree_beyond c s.stood k e l in_c j (need e l.kept among) ∙ is_rule.1));
      }
    where
      full : (y : Entry) (ks js : List (List ℕ)) → y.needs ≡ cond y.shallow ks js → y.shallow ≡ false → y.needs ≡ js
      full y ks js is not_shallow = is ∙ ap (λ t. cond t ks js) not_shallow

      seen_input : (c : Book) → IsFreshIn K c k e → (i : List ℕ) (v : Value) → Leads K k i → content c i ≡ Some (input v) → content b i ≡ Some (input v) → (begin K x).seen i ≡ Some (digest_of v)
      seen_input c in_c i v leads was is = elim (in_c.names i leads) [
        | inl s ↦
            let equal : s.value ≡ v = (let both : Some (input s.value) ≡ Some (input v) = sym s.is_input ∙ was in cc) in
            let seen : K.seen i ≡ Some (digest_of v) = s.seen ∙ ap (λ y. Some (digest_of y)) equal in
            seen_there K x i (digest_of v) (input_stays i (digest_of v) seen (v, is)) seen
        | inr r ↦ let g = rule_of_task c i r.entry.task r.task in absurd (not_both c i v g.0 was g.1)
      ]

  -- what a fresh entry leads to, it leads to still
  fresh_in : (c : Book) → Has H c → (k : List ℕ) (d : Entry) → IsLeft K x k d → IsFreshIn K c k d → (e : Entry) → e ≡ d → IsFreshIn (begin K x) c k e
  fresh_in c in_c k d l f e equal = record {
    names = λ i leads. let there = leads_back K x k i leads in elim (f.names i there) [
      | inl s ↦
          let now = still_input c in_c i s.value s.is_input (seen_still k d l i (inr there) (digest_of s.value) s.seen) in
          inl (record { value = s.value; is_input = s.is_input; seen = seen_there K x i (digest_of s.value) (input_stays i (digest_of s.value) s.seen (s.value, now)) s.seen })
      | inr r ↦
          let g = rule_of_task b i r.entry.task (task_still k d l i (inr there) r.entry r.kept) in
          inr (record { entry = staled (is_among x.marks i) r.entry; kept = entry_there K x i r.entry (rule_stays i r.entry r.kept (g.0, g.1)) r.kept; task = r.task })
    ];
    rules = λ j among is_rule.
        let there : Among d.needs j = subst (λ (y : Entry). Among y.needs j) equal among in
        fresh_need k d l j there (is_rule.0, sym (agree_beyond c in_c k d l f j (need d l.kept there)) ∙ is_rule.1) (f.rules j there is_rule);
  }

  entry_sound : (k : List ℕ) (e : Entry) → (begin K x).entries k ≡ Some e → IsEntryOfSome (begin K x) H k e
  entry_sound k e kept =
      let from = entry_before K x k e kept in
      let s = sound.entries k from.1 from.2 in
      record {
        book = s.book;
        stood = s.stood;
        entry = subst (λ y. IsEntryOf s.book k y) (sym from.3) (record { formula = s.entry.formula; is_rule = s.entry.is_rule; value = s.entry.value; clean = s.entry.clean; key = s.entry.key; task = s.entry.task; result = s.entry.result; needs = s.entry.needs });
        fresh = λ fresh.
            let parts = staled_fresh (is_among x.marks k) from.1 (subst (λ y. is_fresh y ≡ true) from.3 fresh) in
            fresh_in s.book s.stood k from.1 (record { kept = from.2; fresh = parts.1; apart = parts.0 }) (s.fresh parts.1) e (from.3 ∙ ap (λ m. staled m from.1) parts.0);
      }

  -- marking and dropping keep what is kept sound
  pub begun_sound : IsSound (begin K x) H
  begun_sound = record {
    traces = λ w k t there.
        let before = trace_before K x w k t there in
        let s = sound.traces w k t before.1 in
        record { book = s.book; stood = s.stood; trace = s.trace; entry = staled (is_among x.marks k) s.entry; kept = entry_there K x k s.entry before.0 s.kept };
    entries = entry_sound;
    stored = sound.stored;
    entry_stored = λ k e kept.
        let from = entry_before K x k e kept in
        let s = sound.entry_stored k from.1 from.2 in
        (s.0, ap (λ (y : Entry). K.stored y.result) from.3 ∙ s.1);
    trace_stored = λ w k t there. sound.trace_stored w k t (trace_before K x w k t there).1;
    chain = sound.chain;
    apart = λ i d e seen kept. let from = entry_before K x i e kept in sound.apart i d from.1 (seen_before K x i d seen).1 from.2;
  }

  -- and what is left is of rules and inputs of the book
  pub begun_keys : (k : List ℕ) (e : Entry) → (begin K x).entries k ≡ Some e → IsRule b k
  begun_keys k e kept = elim (rule_or_not b k) [
    | inl is_rule ↦ is_rule
    | inr none ↦
        let from = entry_before K x k e kept in
        let t : is_among x.gone k ≡ true = among_tested x.gone k (begins.gone.each k (dropped.IsGone.entry from.1 from.2 none)) in
        let f : is_among x.gone k ≡ false = from.0 in
        absurd (let no : ⊥ = cc in no)
  ]

  pub begun_inputs : (i : List ℕ) (d : Digest) → (begin K x).seen i ≡ Some d → IsInput b i
  begun_inputs i d seen = elim (input_or_not b i) [
    | inl is_input ↦ is_input
    | inr none ↦
        let before = seen_before K x i d seen in
        let t : is_among x.gone i ≡ true = among_tested x.gone i (begins.gone.each i (dropped.IsGone.seen d before.1 none)) in
        let f : is_among x.gone i ≡ false = before.0 in
        absurd (let no : ⊥ = cc in no)
  ]
