-- The list of each name once has the names of the list.
use Rattle.std.proofs.Common.{◌≡◌, ℕ, Bool, true, false, not, cond, List, [], ◌∷◌, refl, ap, sym, inl, inr, filter}
use Rattle.std.specs.Cmp.Lexicographic.{bytes_decides}
use Rattle.carte_name.specs.Names.{name_eq}
use Rattle.carte_value.specs.Truths.{Among}
use Rattle.carte_value.specs.Asks.{firsts}

-- what a filter keeps stood in the list
pub among_filter : (p : List ℕ → Bool) (ks : List (List ℕ)) (k : List ℕ) → Among (filter p ks) k → Among ks k
among_filter p [] k h = h
among_filter p (j ∷ js) k h =
    elim (p j) as (λ b. Among (cond b (j ∷ filter p js) (filter p js)) k → Among (j ∷ js) k) [
      | true ↦ λ here. elim here [
        | inl same ↦ inl same
        | inr later ↦ inr (among_filter p js k later)
      ]
      | false ↦ λ later. inr (among_filter p js k later)
    ] h

-- what stands in the list and passes is kept
pub among_kept : (p : List ℕ → Bool) (ks : List (List ℕ)) (k : List ℕ) → p k ≡ true → Among ks k → Among (filter p ks) k
among_kept p [] k passes h = h
among_kept p (j ∷ js) k passes h =
    elim (p j) as (λ b. p j ≡ b → Among (cond b (j ∷ filter p js) (filter p js)) k) [
      | true ↦ λ is. elim h [
        | inl same ↦ inl same
        | inr later ↦ inr (among_kept p js k passes later)
      ]
      | false ↦ λ is. elim h [
        | inl same ↦ absurd (let e : p k ≡ p j = ap p same in cc)
        | inr later ↦ among_kept p js k passes later
      ]
    ] refl

pub among_firsts : (ks : List (List ℕ)) (k : List ℕ) → Among (firsts ks) k → Among ks k
among_firsts [] k h = h
among_firsts (j ∷ js) k h = elim h [
  | inl same ↦ inl same
  | inr later ↦ inr (among_firsts js k (among_filter (λ i. not (name_eq j i)) (firsts js) k later))
]

pub firsts_among : (ks : List (List ℕ)) (k : List ℕ) → Among ks k → Among (firsts ks) k
firsts_among [] k h = h
firsts_among (j ∷ js) k h =
    elim (name_eq j k) as (λ b. name_eq j k ≡ b → Among (j ∷ filter (λ i. not (name_eq j i)) (firsts js)) k) [
      | true ↦ λ is. inl (sym ((bytes_decides j k).0 is))
      | false ↦ λ is. elim h [
        | inl same ↦ inl same
        | inr later ↦ inr (among_kept (λ i. not (name_eq j i)) (firsts js) k (rw is refl) (firsts_among js k later))
      ]
    ] refl
