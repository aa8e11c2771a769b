-- What is trimmed is sound, and is held by no more.
use Rattle.std.proofs.Common.{◌≡◌, ◌⊎◌, ℕ, zero, suc, true, false, Bool, List, [], ◌∷◌, Option, Some, None, refl, ap, sym, ◌∙◌, subst, take, inl, inr}
use Rattle.std.specs.Prelude.{option_map, if◌then◌else◌}
use Rattle.carte_value.specs.declared.digest.Digest.{Digest}
use Rattle.carte_value.specs.declared.value.Value.{Value}
use Rattle.carte_value.specs.Lists.{Has}
use Rattle.carte_value.specs.Truths.{NoneTwice}
use Rattle.carte_book.specs.Book.{Book}
use Rattle.carte_record.specs.declared.entry.Entry.{Entry}
use Rattle.carte_record.specs.declared.way.Way.{Way}
use Rattle.carte_record.specs.declared.way.Way.TheVariants.{Verifying, Constructive, Deep}
use Rattle.carte_record.specs.Folds.{is_among}
use Rattle.carte_record.specs.Kept.{SomeKept, nothing_kept, staled}
use Rattle.carte_record.specs.Ways.{TraceBy, result_by}
use Rattle.carte_record.proofs.Growing.{kept_same}
use Rattle.carte_sound.specs.Begun.{Beginning, IsGone, begin}
use Rattle.carte_sound.specs.Begun as dropped
use Rattle.carte_sound.specs.Held.{IsTrusted, dirty, tracing}
use Rattle.carte_sound.specs.Marks.{Comes, IsChanged, IsFresh, IsMarked, Leads, need, on}
use Rattle.carte_sound.specs.Marks as marks
use Rattle.carte_sound.specs.Sound.{IsEntryOfSome, IsFreshIn, IsRuled, IsSeen, IsSound, IsStored, IsTraceOfSome}
use Rattle.carte_trim.specs.Laws.{HeldAsBefore, NoneNewlyHeld, OneTrimmed, TrimmedBegins, TrimmedIsSound}
use Rattle.carte_trim.specs.Trimmed.{HasNewest, IsNamed, IsTrimmed, by_entry, by_trace}

pub has_taken : {A : Type 0} (n : ℕ) (xs : List A) (x : A) → Has (take n xs) x → Has xs x
has_taken zero xs x has = absurd has
has_taken (suc n) [] x has = has
has_taken (suc n) (y ∷ ys) x (inl is) = inl is
has_taken (suc n) (y ∷ ys) x (inr has) = inr (has_taken n ys x has)

nothing_taken : {A : Type 0} (n : ℕ) → take {A = A} n [] ≡ []
nothing_taken zero = refl
nothing_taken (suc n) = refl

-- ---- what goes by seen inputs and entries alone

module _ (K L : SomeKept) (seen : L.seen ≡ K.seen) (entries : L.entries ≡ K.entries) where
  entry_too : (k : List ℕ) (o : Option Entry) → K.entries k ≡ o → L.entries k ≡ o
  entry_too k o is = ap (λ f. f k) entries ∙ is

  seen_too : (k : List ℕ) (o : Option Digest) → K.seen k ≡ o → L.seen k ≡ o
  seen_too k o is = ap (λ f. f k) seen ∙ is

  leads_too : (k j : List ℕ) → Leads K k j → Leads L k j
  leads_too k j (need e is among) = need e (entry_too k (Some e) is) among
  leads_too k j (on {i = i} e is among leads) = on e (entry_too k (Some e) is) among (leads_too i j leads)

  comes_too : (k j : List ℕ) → Comes K k j → Comes L k j
  comes_too k j (inl same) = inl same
  comes_too k j (inr leads) = inr (leads_too k j leads)

  fresh_too : (k : List ℕ) → IsFresh K k → IsFresh L k
  fresh_too k fresh = record { entry = fresh.entry; kept = entry_too k (Some fresh.entry) fresh.kept; fresh = fresh.fresh }

  changed_too : (b : Book) (k : List ℕ) → IsChanged K b k → IsChanged L b k
  changed_too b k (marks.IsChanged.seen d is differs) = marks.IsChanged.seen d (seen_too k (Some d) is) differs
  changed_too b k (marks.IsChanged.task e is differs) = marks.IsChanged.task e (entry_too k (Some e) is) differs

  marked_too : (b : Book) (k : List ℕ) → IsMarked K b k → IsMarked L b k
  marked_too b k is = record {
    entry = is.entry;
    kept = entry_too k (Some is.entry) is.kept;
    unmarked = is.unmarked;
    name = is.name;
    leads = comes_too k is.name is.leads;
    changed = changed_too b is.name is.changed;
  }

  gone_too : (b : Book) (k : List ℕ) → IsGone K b k → IsGone L b k
  gone_too b k (dropped.IsGone.seen d is differs) = dropped.IsGone.seen d (seen_too k (Some d) is) differs
  gone_too b k (dropped.IsGone.entry e is differs) = dropped.IsGone.entry e (entry_too k (Some e) is) differs

  trusted_too : (w : Way) (k : List ℕ) (t : TraceBy w) → IsTrusted w K k t → IsTrusted w L k t
  trusted_too Verifying k t (e, is, same) = (e, entry_too k (Some e) is, same)
  trusted_too Constructive k t is = is
  trusted_too Deep k t is = is

  names_too : (b : Book) (k : List ℕ) → IsSeen K b k ⊎ IsRuled K b k → IsSeen L b k ⊎ IsRuled L b k
  names_too b k (inl is) = inl (record { value = is.value; is_input = is.is_input; seen = seen_too k _ is.seen })
  names_too b k (inr is) = inr (record { entry = is.entry; kept = entry_too k (Some is.entry) is.kept; task = is.task })

  trace_too : (H : List Book) (w : Way) (k : List ℕ) (t : TraceBy w) → IsTraceOfSome K H w k t → IsTraceOfSome L H w k t
  trace_too H w k t is = record { book = is.book; stood = is.stood; trace = is.trace; entry = is.entry; kept = entry_too k (Some is.entry) is.kept }

-- and back
fresh_in : (K L : SomeKept) → L.seen ≡ K.seen → L.entries ≡ K.entries → (b : Book) (k : List ℕ) (e : Entry) → IsFreshIn K b k e → IsFreshIn L b k e
fresh_in K L seen entries b k e is = record {
  names = λ i leads. names_too K L seen entries b i (is.names i (leads_too L K (sym seen) (sym entries) k i leads));
  rules = λ j among rule. fresh_too K L seen entries j (is.rules j among rule);
}

-- ---- what is named

module _ (K L : SomeKept) (entries : L.entries ≡ K.entries) (traces : (w : Way) (k : List ℕ) (t : TraceBy w) → Has (K.traces w k) t → Has (L.traces w k) t) where
  named_too : (d : Digest) → IsNamed K d → IsNamed L d
  named_too d (by_entry k e is) = by_entry k e (ap (λ f. f k) entries ∙ is)
  named_too d (by_trace w k t has) = by_trace w k t (traces w k t has)

none_stored : (o : Option Value) → ((v : Value) → ¬ (o ≡ Some v)) → o ≡ None
none_stored None none = refl
none_stored (Some v) none = absurd (none v refl)

-- ---- there is one

module _ (K L M : SomeKept) (n : ℕ) (is : IsTrimmed K n L) (is' : IsTrimmed K n M) where
  across : (d : Digest) → IsNamed L d → IsNamed M d
  across d named = named_too L M (is'.newest.entries ∙ sym is.newest.entries) (λ w k t has. subst (λ ts. Has ts t) (is.newest.traces w k ∙ sym (is'.newest.traces w k)) has) d named

  stored_on : (d : Digest) (o : Option Value) → L.stored d ≡ o → ((v : Value) → M.stored d ≡ Some v → L.stored d ≡ Some v) → o ≡ M.stored d
  stored_on d None here back = sym (none_stored (M.stored d) (λ v there. let clash : Some v ≡ None = sym (back v there) ∙ here in cc))
  stored_on d (Some v) here back = let there = is.only d v here in sym (is'.newest.named d (across d there.0) ∙ there.1)

pub one : OneTrimmed
one K L M n is is' = kept_same L M (λ k. ap (λ f. f k) (is.newest.seen ∙ sym is'.newest.seen)) (λ k. ap (λ f. f k) (is.newest.entries ∙ sym is'.newest.entries))
    (λ w k. is.newest.traces w k ∙ sym (is'.newest.traces w k)) (is.newest.chain ∙ sym is'.newest.chain)
    (λ d. stored_on K L M n is is' d (L.stored d) refl (λ v there. let from = is'.only d v there in is.newest.named d (across K M L n is' is d from.0) ∙ from.1))

-- ---- what has the newest traces

module _ (K L : SomeKept) (n : ℕ) (has_newest : HasNewest K n L) where
  from_newest : (w : Way) (k : List ℕ) (t : TraceBy w) → Has (L.traces w k) t → Has (K.traces w k) t
  from_newest w k t has = has_taken n (K.traces w k) t (subst (λ ts. Has ts t) (has_newest.traces w k) has)

  still_stored : (d : Digest) → IsNamed L d → IsStored K d → IsStored L d
  still_stored d named (v, stored) = (v, has_newest.named d named ∙ stored)

  kept_entry : (k : List ℕ) (e : Entry) → L.entries k ≡ Some e → K.entries k ≡ Some e
  kept_entry k e there = sym (ap (λ f. f k) has_newest.entries) ∙ there

  kept_seen : (i : List ℕ) (d : Digest) → L.seen i ≡ Some d → K.seen i ≡ Some d
  kept_seen i d there = sym (ap (λ f. f i) has_newest.seen) ∙ there

-- ---- it is sound

module _ (K L : SomeKept) (n : ℕ) (H : List Book) (is : IsTrimmed K n L) (sound : IsSound K H) where
  abbrev m : HasNewest K n L
  m = is.newest

  entry_sound : (k : List ℕ) (e : Entry) → K.entries k ≡ Some e → IsEntryOfSome L H k e
  entry_sound k e kept =
      let some = sound.entries k e kept in
      record { book = some.book; stood = some.stood; entry = some.entry; fresh = λ fresh. fresh_in K L m.seen m.entries some.book k e (some.fresh fresh) }

  pub trimmed_sound : IsSound L H
  trimmed_sound = record {
    traces = λ w k t has. trace_too K L m.seen m.entries H w k t (sound.traces w k t (from_newest K L n m w k t has));
    entries = λ k e there. entry_sound k e (kept_entry K L n m k e there);
    stored = λ d v there. sound.stored d v ((is.only d v there).1);
    entry_stored = λ k e there. still_stored K L n m e.result (by_entry k e there) (sound.entry_stored k e (kept_entry K L n m k e there));
    trace_stored = λ w k t has. still_stored K L n m (result_by w t) (by_trace w k t has) (sound.trace_stored w k t (from_newest K L n m w k t has));
    chain = subst (λ ks. NoneTwice ks) (sym m.chain) sound.chain;
    apart = λ i d e seen kept. sound.apart i d e (kept_seen K L n m i d seen) (kept_entry K L n m i e kept);
  }

pub sound : TrimmedIsSound
sound K L n H is s = trimmed_sound K L n H is s

-- ---- what a build begins with

pub nothing_newest : (n : ℕ) → HasNewest nothing_kept n nothing_kept
nothing_newest n = record { seen = refl; entries = refl; traces = λ w k. sym (nothing_taken n); chain = refl; named = λ d named. refl }

-- marks change no result
pub unmarked_named : (o : Option Entry) (b : Bool) (e : Entry) → option_map (staled b) o ≡ Some e → (f : Entry) × (o ≡ Some f) × (f.result ≡ e.result)
unmarked_named None b e there = absurd (cc)
unmarked_named (Some f) b e there = let same : staled b f ≡ e = cc in (f, refl, ap (λ (g : Entry). g.result) same)

module _ (K L : SomeKept) (n : ℕ) (m : HasNewest K n L) (x : Beginning) where
  -- what is named then was named before
  named_before : (d : Digest) → IsNamed (begin L x) d → IsNamed L d
  named_before d (by_entry k e there) = entry (is_among x.gone k) there
    where
      entry : (g : Bool) → (if g then None else option_map (staled (is_among x.marks k)) (L.entries k)) ≡ Some e → IsNamed L e.result
      entry true none = absurd (cc)
      entry false some =
          let before = unmarked_named (L.entries k) (is_among x.marks k) e some in
          subst (λ r. IsNamed L r) before.2 (by_entry k before.0 before.1)
  named_before d (by_trace w k t has) = trace (is_among x.gone k) has
    where
      trace : (g : Bool) → Has (if g then [] else L.traces w k) t → IsNamed L (result_by w t)
      trace true none = absurd none
      trace false there = by_trace w k t there

  begun_newest : HasNewest (begin K x) n (begin L x)
  begun_newest = record {
    seen = ap (λ (f : List ℕ → Option Digest). λ k. if is_among x.gone k then None else f k) m.seen;
    entries = ap (λ (f : List ℕ → Option Entry). λ k. if is_among x.gone k then None else option_map (staled (is_among x.marks k)) (f k)) m.entries;
    traces = λ w k. traces w k (is_among x.gone k);
    chain = m.chain;
    named = λ d named. m.named d (named_before d named);
  }
    where
      traces : (w : Way) (k : List ℕ) (g : Bool) → (if g then [] else L.traces w k) ≡ take n (if g then [] else K.traces w k)
      traces w k true = sym (nothing_taken n)
      traces w k false = m.traces w k

pub begins : TrimmedBegins
begins K L n b x is beginning =
    let m = is.newest in (
      record {
        marks = record {
          rising = beginning.marks.rising;
          only = λ k among. marked_too K L m.seen m.entries b k (beginning.marks.only k among);
          each = λ k marked. beginning.marks.each k (marked_too L K (sym m.seen) (sym m.entries) b k marked);
        };
        gone = record {
          rising = beginning.gone.rising;
          only = λ k among. gone_too K L m.seen m.entries b k (beginning.gone.only k among);
          each = λ k gone. beginning.gone.each k (gone_too L K (sym m.seen) (sym m.entries) b k gone);
        };
      },
      begun_newest K L n m x,
    )

-- ---- what is held

pub none_newly : NoneNewlyHeld
none_newly dirty K L n b k m held = fresh_too L K (sym m.seen) (sym m.entries) k held
none_newly (tracing w) K L n b k m (t, held) = (
  t,
  record {
    kept = from_newest K L n m w k t held.kept;
    task = held.task;
    links = held.links;
    trusted = trusted_too L K (sym m.seen) (sym m.entries) w k t held.trusted;
  },
)

pub as_before : HeldAsBefore
as_before K L n b k m = (
  λ held. fresh_too K L m.seen m.entries k held,
  λ w newest. let (t, held, taken) = newest in (
    t,
    record {
      kept = subst (λ ts. Has ts t) (sym (m.traces w k)) taken;
      task = held.task;
      links = held.links;
      trusted = trusted_too K L m.seen m.entries w k t held.trusted;
    },
  ),
)
