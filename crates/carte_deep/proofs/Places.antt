-- The traces at the places of a key are those of the key.
use Rattle.std.proofs.Common.{◌≡◌, ℕ, zero, suc, ◌-◌, ◌<◌, ◌≤◌, true, false, cond, List, [], ◌∷◌, length, get_or, slice_get, map, Option, Some, None, refl, ap, sym, ◌∙◌, subst, inl, inr, arith}
use Rattle.std.proofs.lemmas.List.{get_or-map, length-map}
use Rattle.carte_value.specs.Lists.{Has}
use Rattle.carte_book.specs.Book.{Book}
use Rattle.carte_effect.specs.Outcomes.{Outcome}
use Rattle.carte_record.specs.declared.deep_trace.DeepTrace.{DeepTrace}
use Rattle.carte_record.specs.declared.kept.Kept.{Kept}
use Rattle.carte_record.specs.declared.way.Way.TheVariants.{Deep}
use Rattle.carte_record.specs.Kept.{kept_view}
use Rattle.carte_table.specs.Lookups.{first_value}
use Rattle.carte_record.specs.Lookups.{is_deep_of}
use Rattle.carte_table.specs.Places.{places}
use Rattle.carte_rebuild.proofs.TracesOf.{traces_there, traces_only}
use Rattle.carte_deep.specs.Holding.{given_by, Finds}

abbrev places_of : List ℕ → List DeepTrace → List ℕ
places_of k ts = places (is_deep_of k) ts

-- at the head of a list all places are one further
next_place : (x : DeepTrace) (ts : List DeepTrace) (ns : List ℕ) (i : ℕ) → i < length ns → slice_get (x ∷ ts) (get_or (map suc ns) i 0) ≡ slice_get ts (get_or ns i 0)
next_place x ts ns i below = ap (slice_get (x ∷ ts)) (get_or-map suc ns i 0 0 below)

-- a place at which the key has this trace
abbrev pub HasPlace : List ℕ → List DeepTrace → List ℕ → DeepTrace → Type 0
HasPlace k ts ns t = (j : ℕ) × (j < length ns) × (slice_get ts (get_or ns j 0) ≡ Some t)

has_place : (k : List ℕ) (ts : List DeepTrace) (t : DeepTrace) → Has ts t → is_deep_of k t ≡ true → HasPlace k ts (places_of k ts) t
has_place k [] t none is = absurd none
has_place k (x ∷ ts) t (inl same) is =
    let here : is_deep_of k x ≡ true = ap (is_deep_of k) (sym same) ∙ is in
    subst (λ b. HasPlace k (x ∷ ts) (cond b (0 ∷ map suc (places_of k ts)) (map suc (places_of k ts))) t) (sym here) (0, omega arith, ap Some (sym same))
has_place k (x ∷ ts) t (inr later) is =
    let r = has_place k ts t later is in
    let ns = places_of k ts in
    let far : length (map suc ns) ≡ length ns = length-map ns suc in
    let there : slice_get (x ∷ ts) (get_or (map suc ns) r.0 0) ≡ Some t = next_place x ts ns r.0 r.1 ∙ r.2 in
    elim (is_deep_of k x) as (λ b. HasPlace k (x ∷ ts) (cond b (0 ∷ map suc ns) (map suc ns)) t) [
      | true ↦ (suc r.0, (let e : suc r.0 < suc (length (map suc ns)) = omega (arith, far, r.1) in e), there)
      | false ↦ (r.0, (let e : r.0 < length (map suc ns) = omega (arith, far, r.1) in e), there)
    ]

place_has : (k : List ℕ) (ts : List DeepTrace) (j : ℕ) (t : DeepTrace) → j < length (places_of k ts) → slice_get ts (get_or (places_of k ts) j 0) ≡ Some t → Has ts t × (is_deep_of k t ≡ true)
place_has k [] j t below is = absurd (omega (arith, below))
place_has k (x ∷ ts) j t below is =
    elim (is_deep_of k x) as (λ b. is_deep_of k x ≡ b → j < length (cond b (0 ∷ map suc (places_of k ts)) (map suc (places_of k ts))) → slice_get (x ∷ ts) (get_or (cond b (0 ∷ map suc (places_of k ts)) (map suc (places_of k ts))) j 0) ≡ Some t → Has (x ∷ ts) t × (is_deep_of k t ≡ true)) [
      | false ↦ λ other within at. later (λ i b e. place_has k ts i t b e) j (omega (arith, length-map (places_of k ts) suc, within)) at
      | true ↦ λ here within at. first (λ i b e. place_has k ts i t b e) j here within at
    ] refl below is
  where
    later : ((i : ℕ) → i < length (places_of k ts) → slice_get ts (get_or (places_of k ts) i 0) ≡ Some t → Has ts t × (is_deep_of k t ≡ true)) → (i : ℕ) → i < length (places_of k ts) → slice_get (x ∷ ts) (get_or (map suc (places_of k ts)) i 0) ≡ Some t → Has (x ∷ ts) t × (is_deep_of k t ≡ true)
    later rec i within at = let r = rec i within (sym (next_place x ts (places_of k ts) i within) ∙ at) in (inr r.0, r.1)

    first : ((i : ℕ) → i < length (places_of k ts) → slice_get ts (get_or (places_of k ts) i 0) ≡ Some t → Has ts t × (is_deep_of k t ≡ true)) → (i : ℕ) → is_deep_of k x ≡ true → i < length (0 ∷ map suc (places_of k ts)) → slice_get (x ∷ ts) (get_or (0 ∷ map suc (places_of k ts)) i 0) ≡ Some t → Has (x ∷ ts) t × (is_deep_of k t ≡ true)
    first rec zero here within at = (let same : t ≡ x = cc in (inl same, ap (is_deep_of k) same ∙ here))
    first rec (suc i) here within at = later rec i (omega (arith, length-map (places_of k ts) suc, within)) at

module _ (K : Kept) (b : Book) (k : List ℕ) (ns : List ℕ) (are : ns ≡ places_of k K.deep) where
  -- what the trace at a place gives
  abbrev pub given_at : ℕ → Option Outcome
  given_at j = given_by (first_value K.values) b k (slice_get K.deep (get_or ns j 0))

  -- is found
  pub finds_some : (j : ℕ) (o : Outcome) → j < length ns → Some o ≡ given_at j → Finds (kept_view K) b k (Some o)
  finds_some j o below gives = on (slice_get K.deep (get_or ns j 0)) refl (sym gives)
    where
      on : (x : Option DeepTrace) → slice_get K.deep (get_or ns j 0) ≡ x → given_by (first_value K.values) b k x ≡ Some o → Finds (kept_view K) b k (Some o)
      on None none e = cc
      on (Some t) at e =
          let r = place_has k K.deep j t (subst (λ ms. j < length ms) are below) (subst (λ ms. slice_get K.deep (get_or ms j 0) ≡ Some t) are at) in
          (t, traces_there Deep k K.deep [] t r.0 r.1, e)

  -- where no place gives anything, from the last one on, nothing is
  pub finds_none : (n : ℕ) → length ns ≤ n → ((i : ℕ) → i < n → given_at (length ns - 1 - i) ≡ None) → Finds (kept_view K) b k None
  finds_none n all none t has = elim (traces_only Deep k K.deep [] t has) [
    | inl (there, key) ↦
        let r = subst (λ ms. HasPlace k K.deep ms t) (sym are) (has_place k K.deep t there key) in
        let i = length ns - 1 - r.0 in
        let within : i < n = omega (arith, r.1, all) in
        let back : length ns - 1 - i ≡ r.0 = omega (arith, r.1) in
        ap (given_by (first_value K.values) b k) (sym (ap (λ m. slice_get K.deep (get_or ns m 0)) back ∙ r.2)) ∙ none i within
    | inr never ↦ absurd never
  ]
