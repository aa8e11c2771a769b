-- What one finished key more changes of what is kept.
use Rattle.std.proofs.Common.{◌≡◌, ◌⊎◌, ℕ, Bool, true, false, not, ◌&&◌, cond, List, Option, Some, None, is_some, refl, ap, sym, ◌∙◌, inl, inr}
use Rattle.carte_value.specs.declared.digest.Digest.{Digest}
use Rattle.carte_value.specs.declared.value.Value.{Value}
use Rattle.carte_name.specs.Names.{name_eq}
use Rattle.carte_value.specs.Spelling.{digest_of}
use Rattle.carte_value.specs.Truths.{Among}
use Rattle.carte_book.specs.Book.{input, Book, content, clean}
use Rattle.carte_record.specs.Ways.{TraceBy, eq_by}
use Rattle.carte_record.specs.declared.way.Way.{Way}
use Rattle.carte_record.specs.Folds.{is_among}
use Rattle.carte_record.specs.Kept.{SomeKept, newest}
use Rattle.carte_table.specs.Lookups.{digest_eq}
use Rattle.carte_value.specs.Lists.{Has}
use Rattle.carte_sound.specs.Marks.{digest_in, present}
use Rattle.carte_sound.specs.True.{digest_or, trace_of}
use Rattle.carte_sound.specs.Sound.{IsStored}
use Rattle.carte_sound.specs.Held.{How}
use Rattle.carte_sound.specs.Left.{entry_left, is_kept, seen_left, is_way, or_first, add}
use Rattle.carte_sound.proofs.Tests.{same_name, same_digest, digest_self, among_tested, has_filter}
use Rattle.carte_sound.proofs.Entries.{both_true}

-- a choice of two equal things is that thing
either_way : {A : Type 0} (t : Bool) (x y z : A) → x ≡ z → y ≡ z → cond t x y ≡ z
either_way true x y z one other = one
either_way false x y z one other = other

-- one of the two
one_of : {A : Type 0} (t : Bool) (x y z : A) → cond t x y ≡ z → (x ≡ z) ⊎ (y ≡ z)
one_of true x y z is = inl is
one_of false x y z is = inr is

module _ (h : How) (b : Book) (K : SomeKept) (k : List ℕ) (ran : Bool) where
  -- what was seen with its present digest still is
  pub seen_grows : (i : List ℕ) (x : Value) → content b i ≡ Some (input x) → K.seen i ≡ Some (digest_of x) → (add h b K k ran).seen i ≡ Some (digest_of x)
  seen_grows i x is seen =
      either_way (is_kept (K.entries k) (entry_left h K b k)) (K.seen i) (seen_left K.seen b (entry_left h K b k).needs i) (Some (digest_of x)) seen
      (either_way (is_among (entry_left h K b k).needs i && is_some (present b i)) (present b i) (K.seen i) (Some (digest_of x)) (ap digest_in is) seen)

  -- the inputs that a written entry names are seen
  pub seen_written : is_kept (K.entries k) (entry_left h K b k) ≡ false → (i : List ℕ) (x : Value) → Among (entry_left h K b k).needs i → content b i ≡ Some (input x) → (add h b K k ran).seen i ≡ Some (digest_of x)
  seen_written written i x among is =
      let tests : (is_among (entry_left h K b k).needs i && is_some (present b i)) ≡ true = tested (is_among (entry_left h K b k).needs i) (present b i) (among_tested (entry_left h K b k).needs i among) (ap digest_in is) in
      ap (λ t. cond t (K.seen i) (seen_left K.seen b (entry_left h K b k).needs i)) written
      ∙ ap (λ t. cond t (present b i) (K.seen i)) tests ∙ ap digest_in is
    where
      tested : (t : Bool) (o : Option Digest) → t ≡ true → o ≡ Some (digest_of x) → (t && is_some o) ≡ true
      tested t o yes_t some = rw (yes_t, some) refl

  -- what is seen was seen before, or is so now
  pub seen_back : (i : List ℕ) (d : Digest) → (add h b K k ran).seen i ≡ Some d → (K.seen i ≡ Some d) ⊎ (present b i ≡ Some d)
  seen_back i d is = elim (one_of (is_kept (K.entries k) (entry_left h K b k)) (K.seen i) (seen_left K.seen b (entry_left h K b k).needs i) (Some d) is) [
    | inl before ↦ inl before
    | inr written ↦ elim (one_of (is_among (entry_left h K b k).needs i && is_some (present b i)) (present b i) (K.seen i) (Some d) written) [
      | inl now ↦ inr now
      | inr before ↦ inl before
    ]
  ]

  -- the store keeps its values
  pub stored_grows : (d : Digest) (u : Value) → K.stored d ≡ Some u → (add h b K k ran).stored d ≡ Some u
  stored_grows d u is = either_way (ran && digest_eq d (digest_or (clean b k))) (or_first (K.stored d) (clean b k)) (K.stored d) (Some u) (ap (λ o. or_first o (clean b k)) is) is

  -- and gets the value of a key that ran
  pub stored_ran : (v : Value) → clean b k ≡ Some v → ran ≡ true → IsStored (add h b K k ran) (digest_of v)
  stored_ran v has yes_ran =
      let of : digest_or (clean b k) ≡ digest_of v = ap digest_or has in
      let tests : (ran && digest_eq (digest_of v) (digest_or (clean b k))) ≡ true = rw (yes_ran, of) (digest_self (digest_of v)) in
      let found = some_first (K.stored (digest_of v)) in
      (found.0, ap (λ t. cond t (or_first (K.stored (digest_of v)) (clean b k)) (K.stored (digest_of v))) tests ∙ ap (or_first (K.stored (digest_of v))) has ∙ found.1)
    where
      some_first : (o : Option Value) → (u : Value) × (or_first o (Some v) ≡ Some u)
      some_first None = (v, refl)
      some_first (Some u) = (u, refl)

  -- what the store has was there before, or is that value
  pub stored_back : (v : Value) → clean b k ≡ Some v → (d : Digest) (u : Value) → (add h b K k ran).stored d ≡ Some u → (K.stored d ≡ Some u) ⊎ ((d ≡ digest_of v) × (u ≡ v))
  stored_back v has d u = elim (ran && digest_eq d (digest_or (clean b k))) as (λ t. (ran && digest_eq d (digest_or (clean b k))) ≡ t → cond t (or_first (K.stored d) (clean b k)) (K.stored d) ≡ Some u → (K.stored d ≡ Some u) ⊎ ((d ≡ digest_of v) × (u ≡ v))) [
    | true ↦ λ tests is. first_of_both (K.stored d) (same_digest d (digest_or (clean b k)) (both_true ran (digest_eq d (digest_or (clean b k))) tests).1) (ap (or_first (K.stored d)) (sym has) ∙ is)
    | false ↦ λ tests is. inl is
  ] refl
    where
      first_of_both : (o : Option Value) → d ≡ digest_or (clean b k) → or_first o (Some v) ≡ Some u → (o ≡ Some u) ⊎ ((d ≡ digest_of v) × (u ≡ v))
      first_of_both None of is = inr (of ∙ ap digest_or has, (let same : v ≡ u = cc in sym same))
      first_of_both (Some w) of is = inl is

  -- a trace was there before, or is the new one of a key that ran
  pub traces_back : (w : Way) (q : List ℕ) (t : TraceBy w) → Has ((add h b K k ran).traces w q) t → Has (K.traces w q) t ⊎ ((q ≡ k) × (t ≡ trace_of w b k) × (ran ≡ true))
  traces_back w q t = elim ((ran && is_way h w) && name_eq q k) as (λ x. ((ran && is_way h w) && name_eq q k) ≡ x → Has (cond x (newest (eq_by w) (trace_of w b k) (K.traces w q)) (K.traces w q)) t → Has (K.traces w q) t ⊎ ((q ≡ k) × (t ≡ trace_of w b k) × (ran ≡ true))) [
    | true ↦ λ tests has. at_new (both_true (ran && is_way h w) (name_eq q k) tests) has
    | false ↦ λ tests has. inl has
  ] refl
    where
      at_new : (((ran && is_way h w) ≡ true) × (name_eq q k ≡ true)) → Has (newest (eq_by w) (trace_of w b k) (K.traces w q)) t → Has (K.traces w q) t ⊎ ((q ≡ k) × (t ≡ trace_of w b k) × (ran ≡ true))
      at_new both (inl new) = inr (same_name q k both.1, new, (both_true ran (is_way h w) both.0).0)
      at_new both (inr later) = inl (has_filter (λ s. not (eq_by w s (trace_of w b k))) (K.traces w q) t later)
