-- The values of a batch with that of one more finished key.
use Rattle.std.proofs.Common.{◌≡◌, Bool, true, false, ◌||◌, cond, List, [], ◌∷◌, ◌++◌, Option, Some, None, is_some, refl, ap, sym, ◌∙◌, map, subst, inl, inr}
use Rattle.std.specs.Prelude.{find}
use Rattle.std.specs.Option.{option_or}
use Rattle.carte_value.specs.declared.digest.Digest.{Digest}
use Rattle.carte_value.specs.declared.value.Value.{Value}
use Rattle.carte_value.specs.Lists.{Has}
use Rattle.carte_value.specs.Spelling.{digest_of}
use Rattle.carte_table.specs.Lookups.{digest_eq, first_value, is_value_of}
use Rattle.carte_table.proofs.FirstPlaces.{map_end}
use Rattle.carte_table.proofs.Found.{find_end, or_none}
use Rattle.carte_sound.specs.Left.{or_first}
use Rattle.carte_sound.specs.Lists.{EachOnce}
use Rattle.carte_sound.proofs.Tests.{same_digest, digest_self}
use Rattle.carte_note.specs.Writes.{with_value}
use Rattle.carte_note.proofs.Ends.{each_end}

-- just those that the store lacks
pub record ValuesIn (kept now : Digest → Option Value) (vs : List Value) : Type 0 where
  pub values : (d : Digest) → now d ≡ option_or (kept d) (first_value vs d)
  pub lacked : (d : Digest) (v : Value) → first_value vs d ≡ Some v → kept d ≡ None
  pub once : EachOnce (map digest_of vs)

-- the store with a value, where it has none of its digest
abbrev pub store_at : (Digest → Option Value) → Value → Digest → Option Value
store_at now v d = cond (digest_eq d (digest_of v)) (or_first (now d) (Some v)) (now d)

pub values_alike : (kept now new : Digest → Option Value) (vs : List Value) → ((d : Digest) → new d ≡ now d) → ValuesIn kept now vs → ValuesIn kept new vs
values_alike kept now new vs same s = record { values = λ d. same d ∙ s.values d; lacked = s.lacked; once = s.once }

-- a digest that isn't found isn't there
value_lacks : (vs : List Value) (d : Digest) → first_value vs d ≡ None → ¬ (Has (map digest_of vs) d)
value_lacks [] d none h = h
value_lacks (v ∷ vs) d none h = on (digest_eq d (digest_of v)) refl none h (value_lacks vs d)
  where
    on : (t : Bool) → digest_eq d (digest_of v) ≡ t → cond t (Some v) (find (is_value_of d) vs) ≡ None → Has (digest_of v ∷ map digest_of vs) d → (first_value vs d ≡ None → ¬ (Has (map digest_of vs) d)) → ⊥
    on true is none h rest = cc
    on false is none h rest = elim h [
      | inl same ↦ (let t : false ≡ true = sym is ∙ (ap (digest_eq d) (sym same) ∙ digest_self d) in cc)
      | inr later ↦ rest none later
    ]

some_or : (a b o : Option Value) → (is_some a || is_some b) ≡ true → or_first (option_or a b) o ≡ option_or a b
some_or (Some x) b o is = refl
some_or None (Some y) o is = refl
some_or None None o is = cc

neither : (a b : Option Value) → (is_some a || is_some b) ≡ false → (a ≡ None) × (b ≡ None)
neither None None is = (refl, refl)
neither None (Some y) is = cc
neither (Some x) b is = cc

module _ (ks : List Value) (now : Digest → Option Value) (vs : List Value) (v : Value) (s : ValuesIn (first_value ks) now vs) where
  there : (is_some (first_value ks (digest_of v)) || is_some (first_value vs (digest_of v))) ≡ true → (d : Digest) → store_at now v d ≡ now d
  there has d = on (digest_eq d (digest_of v)) refl
    where
      on : (t : Bool) → digest_eq d (digest_of v) ≡ t → cond t (or_first (now d) (Some v)) (now d) ≡ now d
      on true is =
          let e = same_digest d (digest_of v) is in
          subst (λ c. or_first (now c) (Some v) ≡ now c) (sym e)
          (subst (λ o. or_first o (Some v) ≡ o) (sym (s.values (digest_of v))) (some_or (first_value ks (digest_of v)) (first_value vs (digest_of v)) (Some v) has))
      on false is = refl

  at_end : (d : Digest) → first_value (vs ++ v ∷ []) d ≡ option_or (first_value vs d) (cond (digest_eq d (digest_of v)) (Some v) None)
  at_end d = find_end (is_value_of d) vs v

  more : first_value ks (digest_of v) ≡ None → first_value vs (digest_of v) ≡ None → ValuesIn (first_value ks) (store_at now v) (vs ++ v ∷ [])
  more kept_lacks lacks = record { values = values; lacked = lacked; once = once }
    where
      was : now (digest_of v) ≡ None
      was = s.values (digest_of v) ∙ (ap (λ o. option_or o (first_value vs (digest_of v))) kept_lacks ∙ lacks)

      put : (t : Bool) (d : Digest) → digest_eq d (digest_of v) ≡ t → cond t (or_first (now d) (Some v)) (now d) ≡ option_or (first_value ks d) (option_or (first_value vs d) (cond t (Some v) None))
      put true d is =
          let e = same_digest d (digest_of v) is in
          subst (λ c. or_first (now c) (Some v) ≡ option_or (first_value ks c) (option_or (first_value vs c) (Some v))) (sym e)
          (ap (λ o. or_first o (Some v)) was ∙ sym (ap (λ o. option_or o (option_or (first_value vs (digest_of v)) (Some v))) kept_lacks ∙ ap (λ o. option_or o (Some v)) lacks))
      put false d is = s.values d ∙ sym (ap (option_or (first_value ks d)) (or_none (first_value vs d)))

      values : (d : Digest) → store_at now v d ≡ option_or (first_value ks d) (first_value (vs ++ v ∷ []) d)
      values d = put (digest_eq d (digest_of v)) d refl ∙ sym (ap (option_or (first_value ks d)) (at_end d))

      old_or : (t : Bool) (d : Digest) (u : Value) → digest_eq d (digest_of v) ≡ t → option_or (first_value vs d) (cond t (Some v) None) ≡ Some u → first_value ks d ≡ None
      old_or true d u is found = subst (λ c. first_value ks c ≡ None) (sym (same_digest d (digest_of v) is)) kept_lacks
      old_or false d u is found = s.lacked d u (sym (or_none (first_value vs d)) ∙ found)

      lacked : (d : Digest) (u : Value) → first_value (vs ++ v ∷ []) d ≡ Some u → first_value ks d ≡ None
      lacked d u found = old_or (digest_eq d (digest_of v)) d u refl (sym (at_end d) ∙ found)

      once : EachOnce (map digest_of (vs ++ v ∷ []))
      once = subst EachOnce (sym (map_end digest_of vs v)) (each_end (map digest_of vs) (digest_of v) s.once (value_lacks vs (digest_of v) lacks))

  -- the value of one key more
  pub valued : ValuesIn (first_value ks) (store_at now v) (with_value ks v vs)
  valued = on (is_some (first_value ks (digest_of v)) || is_some (first_value vs (digest_of v))) refl
    where
      on : (t : Bool) → (is_some (first_value ks (digest_of v)) || is_some (first_value vs (digest_of v))) ≡ t → ValuesIn (first_value ks) (store_at now v) (cond t vs (vs ++ v ∷ []))
      on true is = values_alike (first_value ks) now (store_at now v) vs (there is) s
      on false is = let none = neither (first_value ks (digest_of v)) (first_value vs (digest_of v)) is in more none.0 none.1
