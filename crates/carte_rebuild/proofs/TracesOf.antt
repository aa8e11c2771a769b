-- The traces of a key are those of the list with that key.
use Rattle.std.proofs.Common.{◌≡◌, ℕ, Bool, true, false, not, cond, List, [], ◌∷◌, ◌⊎◌, filter, refl, ap, sym, ◌∙◌, subst, inl, inr}
use Rattle.carte_name.specs.Names.{name_eq}
use Rattle.carte_record.specs.declared.way.Way.{Way}
use Rattle.carte_record.specs.Alike.{eq_by_is}
use Rattle.carte_record.specs.Kept.{newest, traces_in}
use Rattle.carte_record.specs.Ways.{TraceBy, key_by, eq_by}
use Rattle.carte_value.specs.Lists.{Has}
use Rattle.carte_sound.proofs.Tests.{has_filter}

module _ (w : Way) where
  -- what is newest stands before all others, once
  filter_has : (t : TraceBy w) (ts : List (TraceBy w)) (s : TraceBy w) → Has ts s → (s ≡ t) ⊎ Has (filter (λ r. not (eq_by w r t)) ts) s
  filter_has t [] s none = absurd none
  filter_has t (r ∷ ts) s has =
      elim (eq_by w r t) as (λ b. eq_by w r t ≡ b → (s ≡ t) ⊎ Has (cond (not b) (r ∷ filter (λ x. not (eq_by w x t)) ts) (filter (λ x. not (eq_by w x t)) ts)) s) [
        | true ↦ λ is. elim has [
          | inl same ↦ inl (same ∙ eq_by_is w r t is)
          | inr later ↦ filter_has t ts s later
        ]
        | false ↦ λ is. elim has [
          | inl same ↦ inr (inl same)
          | inr later ↦ elim (filter_has t ts s later) [
            | inl same ↦ inl same
            | inr there ↦ inr (inr there)
          ]
        ]
      ] refl

  newest_has : (t : TraceBy w) (ts : List (TraceBy w)) (s : TraceBy w) → Has ts s → Has (newest (eq_by w) t ts) s
  newest_has t ts s has = filter_has t ts s has

  abbrev if_key : List ℕ → TraceBy w → List (TraceBy w) → List (TraceBy w)
  if_key k t old = cond (name_eq k (key_by w t)) (newest (eq_by w) t old) old

  step_has : (k : List ℕ) (t : TraceBy w) (old : List (TraceBy w)) (s : TraceBy w) → Has old s → Has (if_key k t old) s
  step_has k t old s has =
      elim (name_eq k (key_by w t)) as (λ b. Has (cond b (newest (eq_by w) t old) old) s) [
        | true ↦ newest_has t old s has
        | false ↦ has
      ]

  -- what was there stays there
  pub traces_stay : (k : List ℕ) (ts old : List (TraceBy w)) (s : TraceBy w) → Has old s → Has (traces_in w k ts old) s
  traces_stay k [] old s has = has
  traces_stay k (t ∷ ts) old s has = traces_stay k ts (if_key k t old) s (step_has k t old s has)

  -- and each of the list with this key is there
  pub traces_there : (k : List ℕ) (ts old : List (TraceBy w)) (s : TraceBy w) → Has ts s → name_eq k (key_by w s) ≡ true → Has (traces_in w k ts old) s
  traces_there k [] old s none is = absurd none
  traces_there k (t ∷ ts) old s (inl same) is =
      let here : name_eq k (key_by w t) ≡ true = ap (λ (x : TraceBy w). name_eq k (key_by w x)) (sym same) ∙ is in
      let has : Has (if_key k t old) s = subst (λ b. Has (cond b (newest (eq_by w) t old) old) s) (sym here) (inl same) in
      traces_stay k ts (if_key k t old) s has
  traces_there k (t ∷ ts) old s (inr later) is = traces_there k ts (if_key k t old) s later is

  -- and nothing besides
  pub traces_only : (k : List ℕ) (ts old : List (TraceBy w)) (s : TraceBy w) → Has (traces_in w k ts old) s → (Has ts s × (name_eq k (key_by w s) ≡ true)) ⊎ Has old s
  traces_only k [] old s has = inr has
  traces_only k (t ∷ ts) old s has = elim (traces_only k ts (if_key k t old) s has) [
    | inl (there, is) ↦ inl (inr there, is)
    | inr step ↦ from (name_eq k (key_by w t)) refl step
  ]
    where
      from : (b : Bool) → name_eq k (key_by w t) ≡ b → Has (cond b (newest (eq_by w) t old) old) s → (Has (t ∷ ts) s × (name_eq k (key_by w s) ≡ true)) ⊎ Has old s
      from false is here = inr here
      from true is here = elim here [
        | inl same ↦ inl (inl same, ap (λ (x : TraceBy w). name_eq k (key_by w x)) same ∙ is)
        | inr later ↦ inr (has_filter (λ x. not (eq_by w x t)) old s later)
      ]
