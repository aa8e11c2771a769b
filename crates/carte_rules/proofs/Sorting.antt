-- Entries whose items were put, each at a key at which nothing stood, can stand by their keys.
use Rattle.std.proofs.Common.{◌≡◌, ℕ, Less, Equal, Greater, List, [], ◌∷◌, Option, Some, None, option_and_then, refl, sym, ap, ◌∙◌, inl, inr}
use Rattle.std.specs.List.{AllByRecursion}
use Rattle.std.specs.List.Sorted.{IsStrictlySortedBy}
use Rattle.std.proofs.lemmas.Cmp.{nat_list_cmp_total}
use Rattle.std.proofs.lemmas.List.Sorted.{IsPermutation-refl, IsPermutation-cons, IsPermutation-middle, IsPermutation-trans}
use Rattle.std.proofs.lemmas.Map.Keys.{sorted_head, sorted_tail}
use Rattle.carte_name.specs.Names.{name_cmp}
use Rattle.carte_book.specs.Book.{Item}
use Rattle.carte_rules.specs.Entries.{keys_of}
use Rattle.carte_rules.specs.Orders.{IsOrderOf}
use Rattle.carte_rules.specs.Reading.{Content}
use Rattle.carte_rules.specs.declared.entry.Entry.{Entry}
use Rattle.carte_rules.proofs.Placed.{put_at, put_comm, put_twice}
use Rattle.carte_rules.proofs.Puts.{cases_ordering, same_keys, turned}
use Rattle.carte_rules.proofs.Swaps.{run, run_permutation}

-- all keys are above this one
abbrev Above : List ℕ → List (List ℕ) → Type 0
Above k ks = AllByRecursion (λ l. name_cmp k l ≡ Less) ks

above_more : (k l : List ℕ) (ks : List (List ℕ)) → name_cmp k l ≡ Less → Above l ks → Above k ks
above_more k l [] less h = tt
above_more k l (j ∷ ks) less h = (nat_list_cmp_total.trans k l j less h.0, above_more k l ks less h.1)

ordered_cons : (k : List ℕ) (ks : List (List ℕ)) → Above k ks → IsStrictlySortedBy name_cmp ks → IsStrictlySortedBy name_cmp (k ∷ ks)
unfolding IsStrictlySortedBy
ordered_cons k ks above sorted = (above, sorted)

ordered_none : IsStrictlySortedBy name_cmp []
unfolding IsStrictlySortedBy
ordered_none = tt

pub came : {A B : Type 0} (o : Option A) (f : A → Option B) (b : B) → option_and_then f o ≡ Some b → (a : A) × (o ≡ Some a) × (f a ≡ Some b)
came None f b e = absurd (cc)
came (Some a) f b e = (a, refl, e)

module _ (item : Entry → Option Item) where
  abbrev pub step : Entry → Content → Option Content
  step e m = put_at e.key.now (item e) m

  pub step_comm : (e f : Entry) (m : Content) → option_and_then (step f) (step e m) ≡ option_and_then (step e) (step f m)
  step_comm e f m = put_comm e.key.now f.key.now (item e) (item f) m

  stops : (f : Entry) (fs : List Entry) (o : Option Content) → option_and_then (step f) o ≡ None → option_and_then (run step (f ∷ fs)) o ≡ None
  stops f fs None h = refl
  stops f fs (Some m) h = ap (option_and_then (run step fs)) h

  tied : (e f : Entry) (fs : List Entry) (m n : Content) → name_cmp e.key.now f.key.now ≡ Equal → run step (e ∷ f ∷ fs) m ≡ Some n → ⊥
  tied e f fs m n tie h =
      let none : run step (e ∷ f ∷ fs) m ≡ None = stops f fs (step e m) (put_twice e.key.now f.key.now (item e) (item f) m (same_keys e.key.now f.key.now tie)) in
      cc

  past : (e f : Entry) (fs : List Entry) (m : Content) → run step (e ∷ f ∷ fs) m ≡ run step (f ∷ e ∷ fs) m
  past e f fs m = run_permutation step step_comm (f ∷ e ∷ fs) (e ∷ f ∷ fs) (IsPermutation-middle (f ∷ []) e fs) m

  -- such an order, in which each key is above those that all of these are above
  abbrev Fits : List Entry → List Entry → Type 0
  Fits es fs = IsOrderOf es fs × ((k : List ℕ) → Above k (keys_of es) → Above k (keys_of fs))

  first : (e f : Entry) (fs : List Entry) → IsStrictlySortedBy name_cmp (keys_of (f ∷ fs)) → name_cmp e.key.now f.key.now ≡ Less → Fits (e ∷ f ∷ fs) (e ∷ f ∷ fs)
  first e f fs sorted less =
      let above : Above e.key.now (keys_of (f ∷ fs)) = (less, above_more e.key.now f.key.now (keys_of fs) less (sorted_head name_cmp f.key.now (keys_of fs) sorted)) in
      ((IsPermutation-refl (e ∷ f ∷ fs), ordered_cons e.key.now (keys_of (f ∷ fs)) above sorted), λ k h. h)

  later : (e f : Entry) (fs gs : List Entry) → IsStrictlySortedBy name_cmp (keys_of (f ∷ fs)) → name_cmp f.key.now e.key.now ≡ Less → Fits (e ∷ fs) gs → Fits (e ∷ f ∷ fs) (f ∷ gs)
  later e f fs gs sorted less ((same, order), bounds) =
      let above : Above f.key.now (keys_of gs) = bounds f.key.now (less, sorted_head name_cmp f.key.now (keys_of fs) sorted) in
      ((IsPermutation-trans (e ∷ f ∷ fs) (f ∷ e ∷ fs) (f ∷ gs) (IsPermutation-middle (e ∷ []) f fs) (IsPermutation-cons f (e ∷ fs) gs same), ordered_cons f.key.now (keys_of gs) above order), λ k h. (h.1.0, bounds k (h.0, h.1.1)))

  -- one entry goes to its place
  one_in : (e : Entry) (fs : List Entry) (m n : Content) → IsStrictlySortedBy name_cmp (keys_of fs) → run step (e ∷ fs) m ≡ Some n → (gs : List Entry) × Fits (e ∷ fs) gs
  one_in e [] m n sorted h = (e ∷ [], ((IsPermutation-refl (e ∷ []), ordered_cons e.key.now [] tt ordered_none), λ k above. above))
  one_in e (f ∷ fs) m n sorted h =
      elim (cases_ordering (name_cmp e.key.now f.key.now)) [
        | inl less ↦ (e ∷ f ∷ fs, first e f fs sorted less)
        | inr other ↦ elim other [
          | inl tie ↦ absurd (tied e f fs m n tie h)
          | inr more ↦
              let (s, at, on) = came (step f m) (run step (e ∷ fs)) n (sym (past e f fs m) ∙ h) in
              let (gs, fits) = one_in e fs s n (sorted_tail name_cmp f.key.now (keys_of fs) sorted) on in
              (f ∷ gs, later e f fs gs sorted (turned e.key.now f.key.now Greater more) fits)
        ]
      ]

  -- and all of them
  ordered : (es : List Entry) (m n : Content) → run step es m ≡ Some n → (fs : List Entry) × IsOrderOf es fs
  ordered [] m n h = ([], (IsPermutation-refl [], ordered_none))
  ordered (e ∷ es) m n h =
      let (s, at, on) = came (step e m) (run step es) n h in
      let (fs, (same, sorted)) = ordered es s n on in
      let put : run step (e ∷ fs) m ≡ Some n = ap (option_and_then (run step fs)) at ∙ run_permutation step step_comm es fs same s ∙ on in
      let (gs, ((order, by_keys), bounds)) = one_in e fs m n sorted put in
      (gs, (IsPermutation-trans (e ∷ es) (e ∷ fs) gs (IsPermutation-cons e es fs same) order, by_keys))

  pub in_order : (es : List Entry) (m n : Content) → run step es m ≡ Some n → (fs : List Entry) × IsOrderOf es fs × (run step fs m ≡ Some n)
  in_order es m n h =
      let (fs, (same, sorted)) = ordered es m n h in
      (fs, (same, sorted), run_permutation step step_comm es fs same m ∙ h)
