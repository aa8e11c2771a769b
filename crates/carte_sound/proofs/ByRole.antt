-- What a build begins with, told by what each name is now.
use Rattle.std.proofs.Common.{◌≡◌, ◌⊎◌, ℕ, Bool, true, false, cond, List, [], ◌∷◌, Option, Some, None, option_map, refl, ap, inl, inr}
use Rattle.carte_value.specs.declared.digest.Digest.{Digest}
use Rattle.carte_book.specs.Book.{Book}
use Rattle.carte_book.specs.Edits.{IsInput}
use Rattle.carte_book.specs.Needs.{IsRule}
use Rattle.carte_record.specs.declared.entry.Entry.{Entry}
use Rattle.carte_record.specs.Ways.{TraceBy}
use Rattle.carte_record.specs.declared.way.Way.{Way}
use Rattle.carte_record.specs.Folds.{is_among}
use Rattle.carte_record.specs.Kept.{SomeKept, staled}
use Rattle.carte_sound.specs.Begun as dropped
use Rattle.carte_sound.specs.Begun.{IsGone, Beginning, IsBeginning, IsByRole, begin}
use Rattle.carte_sound.specs.Sound.{IsSound}
use Rattle.carte_sound.proofs.Tests.{among_tested, tested_among}

-- where a choice drops something, what it drops isn't there, or it is what should be dropped
stays_where : {A : Type 0} (t : Bool) (none x : A) → (t ≡ true → x ≡ none) → cond t none x ≡ x
stays_where true none x drops = let same : x ≡ none = drops refl in cc
stays_where false none x drops = refl

goes_where : {A : Type 0} (t : Bool) (none x : A) → (x ≡ none) ⊎ (t ≡ true) → cond t none x ≡ none
goes_where true none x either = refl
goes_where false none x (inl same) = same
goes_where false none x (inr test) = cc

module _ (K : SomeKept) (H : List Book) (b : Book) (sound : IsSound K H) (x : Beginning) (begins : IsBeginning K b x) where
  -- a name that was seen has no entry, one with an entry wasn't seen, and one without an entry has no traces
  no_entry_of : (k : List ℕ) (d : Digest) → K.seen k ≡ Some d → K.entries k ≡ None
  no_entry_of k d seen = on_entry (K.entries k) refl
    where
      on_entry : (o : Option Entry) → K.entries k ≡ o → o ≡ None
      on_entry None is = refl
      on_entry (Some e) is = absurd (sound.apart k d e seen is)

  not_seen_of : (k : List ℕ) (e : Entry) → K.entries k ≡ Some e → K.seen k ≡ None
  not_seen_of k e kept = on_digest (K.seen k) refl
    where
      on_digest : (o : Option Digest) → K.seen k ≡ o → o ≡ None
      on_digest None is = refl
      on_digest (Some d) is = absurd (sound.apart k d e is kept)

  no_trace_of : (w : Way) (k : List ℕ) → K.entries k ≡ None → K.traces w k ≡ []
  no_trace_of w k none = on_traces (K.traces w k) refl
    where
      on_traces : (ts : List (TraceBy w)) → K.traces w k ≡ ts → ts ≡ []
      on_traces [] is = refl
      on_traces (t ∷ ts) is =
          let s = sound.traces w k t (rw is (inl refl)) in
          let no : None ≡ Some s.entry = (let kept : K.entries k ≡ Some s.entry = s.kept in cc) in
          absurd (let never : ⊥ = cc in never)

  -- what is dropped of a rule isn't there
  rule_entry : (k : List ℕ) → IsRule b k → is_among x.gone k ≡ true → K.entries k ≡ None
  rule_entry k is_rule test = of_gone (begins.gone.only k (tested_among x.gone k test))
    where
      of_gone : IsGone K b k → K.entries k ≡ None
      of_gone (dropped.IsGone.seen d at none) = no_entry_of k d at
      of_gone (dropped.IsGone.entry e at none) = absurd (none is_rule)

  input_seen : (i : List ℕ) → IsInput b i → is_among x.gone i ≡ true → K.seen i ≡ None
  input_seen i is_input test = of_gone (begins.gone.only i (tested_among x.gone i test))
    where
      of_gone : IsGone K b i → K.seen i ≡ None
      of_gone (dropped.IsGone.seen d at none) = absurd (none is_input)
      of_gone (dropped.IsGone.entry e at none) = not_seen_of i e at

  -- and what there is of something else is dropped
  other_entry : (k : List ℕ) → ¬ (IsRule b k) → (K.entries k ≡ None) ⊎ (is_among x.gone k ≡ true)
  other_entry k none = on_entry (K.entries k) refl
    where
      on_entry : (o : Option Entry) → K.entries k ≡ o → (o ≡ None) ⊎ (is_among x.gone k ≡ true)
      on_entry None is = inl refl
      on_entry (Some e) is = inr (among_tested x.gone k (begins.gone.each k (dropped.IsGone.entry e is none)))

  other_seen : (i : List ℕ) → ¬ (IsInput b i) → (K.seen i ≡ None) ⊎ (is_among x.gone i ≡ true)
  other_seen i none = on_digest (K.seen i) refl
    where
      on_digest : (o : Option Digest) → K.seen i ≡ o → (o ≡ None) ⊎ (is_among x.gone i ≡ true)
      on_digest None is = inl refl
      on_digest (Some d) is = inr (among_tested x.gone i (begins.gone.each i (dropped.IsGone.seen d is none)))

  entry_or : (k : List ℕ) → (K.entries k ≡ None) ⊎ (is_among x.gone k ≡ true) → (option_map (staled (is_among x.marks k)) (K.entries k) ≡ None) ⊎ (is_among x.gone k ≡ true)
  entry_or k (inl none) = inl (ap (option_map (staled (is_among x.marks k))) none)
  entry_or k (inr test) = inr test

  trace_or : (w : Way) (k : List ℕ) → (K.entries k ≡ None) ⊎ (is_among x.gone k ≡ true) → (K.traces w k ≡ []) ⊎ (is_among x.gone k ≡ true)
  trace_or w k (inl none) = inl (no_trace_of w k none)
  trace_or w k (inr test) = inr test

  pub by_role : IsByRole K b x (begin K x)
  by_role = record {
    entry = λ k is_rule. stays_where (is_among x.gone k) None (option_map (staled (is_among x.marks k)) (K.entries k)) (λ test. ap (option_map (staled (is_among x.marks k))) (rule_entry k is_rule test));
    traces = λ w k is_rule. stays_where (is_among x.gone k) [] (K.traces w k) (λ test. no_trace_of w k (rule_entry k is_rule test));
    seen = λ i is_input. stays_where (is_among x.gone i) None (K.seen i) (λ test. input_seen i is_input test);
    no_entry = λ k none. goes_where (is_among x.gone k) None (option_map (staled (is_among x.marks k)) (K.entries k)) (entry_or k (other_entry k none));
    no_trace = λ w k none. goes_where (is_among x.gone k) [] (K.traces w k) (trace_or w k (other_entry k none));
    not_seen = λ i none. goes_where (is_among x.gone i) None (K.seen i) (other_seen i none);
  }
