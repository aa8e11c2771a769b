-- Lists of names to which names are put, each once.
use Rattle.std.proofs.Common.{◌≡◌, ◌↔◌, ◌⊎◌, ℕ, suc, zero, ◌<◌, Bool, true, false, ◌||◌, cond, List, [], ◌∷◌, ◌++◌, length, Some, None, slice_get, refl, ap, sym, ◌∙◌, subst, inl, inr, arith}
use Rattle.std.specs.List.{list_any}
use Rattle.carte_value.specs.Firsts.{seen_also}
use Rattle.carte_name.specs.Names.{name_eq}
use Rattle.carte_value.specs.Truths.{Among}
use Rattle.carte_value.proofs.Members.{among_append, among_left, among_right}
use Rattle.carte_table.proofs.Names.{name_eq_is, name_eq_self}
use Rattle.carte_mark.specs.Puts.{put_all}

pub any_among : (rs : List (List ℕ)) (k : List ℕ) → list_any (name_eq k) rs ≡ true → Among rs k
any_among [] k is = cc
any_among (r ∷ rs) k is = on (name_eq k r) refl is (any_among rs k)
  where
    on : (t : Bool) → name_eq k r ≡ t → (t || list_any (name_eq k) rs) ≡ true → (list_any (name_eq k) rs ≡ true → Among rs k) → Among (r ∷ rs) k
    on true same is rest = inl (name_eq_is k r same)
    on false same is rest = inr (rest is)

pub among_any : (rs : List (List ℕ)) (k : List ℕ) → Among rs k → list_any (name_eq k) rs ≡ true
among_any [] k nowhere = absurd nowhere
among_any (r ∷ rs) k (inl same) = ap (λ t. (t || list_any (name_eq k) rs)) (ap (name_eq k) (sym same) ∙ name_eq_self k)
among_any (r ∷ rs) k (inr later) = on (name_eq k r) (among_any rs k later)
  where
    on : (t : Bool) → list_any (name_eq k) rs ≡ true → (t || list_any (name_eq k) rs) ≡ true
    on true is = refl
    on false is = is

abbrev pub put : List (List ℕ) → List ℕ → List (List ℕ)
put rs k = seen_also rs k

-- one name
one_only : (rs : List (List ℕ)) (k j : List ℕ) → Among (put rs k) j → Among rs j ⊎ (j ≡ k)
one_only rs k j = on (list_any (name_eq k) rs)
  where
    on : (t : Bool) → Among (cond t rs (rs ++ k ∷ [])) j → Among rs j ⊎ (j ≡ k)
    on true among = inl among
    on false among = elim (among_append rs (k ∷ []) j among) [
      | inl before ↦ inl before
      | inr here ↦ elim here [
        | inl same ↦ inr same
        | inr nowhere ↦ absurd nowhere
      ]
    ]

one_stays : (rs : List (List ℕ)) (k j : List ℕ) → Among rs j → Among (put rs k) j
one_stays rs k j among = on (list_any (name_eq k) rs)
  where
    on : (t : Bool) → Among (cond t rs (rs ++ k ∷ [])) j
    on true = among
    on false = among_left rs (k ∷ []) j among

one_there : (rs : List (List ℕ)) (k : List ℕ) → Among (put rs k) k
one_there rs k = on (list_any (name_eq k) rs) refl
  where
    on : (t : Bool) → list_any (name_eq k) rs ≡ t → Among (cond t rs (rs ++ k ∷ [])) k
    on true is = any_among rs k is
    on false is = among_right rs (k ∷ []) k (inl refl)

pub get_left : (rs ks : List (List ℕ)) (i : ℕ) (q : List ℕ) → slice_get rs i ≡ Some q → slice_get (rs ++ ks) i ≡ Some q
get_left [] ks i q is = cc
get_left (r ∷ rs) ks zero q is = is
get_left (r ∷ rs) ks (suc i) q is = get_left rs ks i q is

one_get : (rs : List (List ℕ)) (k : List ℕ) (i : ℕ) (q : List ℕ) → slice_get rs i ≡ Some q → slice_get (put rs k) i ≡ Some q
one_get rs k i q is = on (list_any (name_eq k) rs)
  where
    on : (t : Bool) → slice_get (cond t rs (rs ++ k ∷ [])) i ≡ Some q
    on true = is
    on false = get_left rs (k ∷ []) i q is

-- many
pub put_only : (rs ks : List (List ℕ)) (j : List ℕ) → Among (put_all rs ks) j → Among rs j ⊎ Among ks j
put_only rs [] j among = inl among
put_only rs (k ∷ ks) j among = elim (put_only (put rs k) ks j among) [
  | inl before ↦ elim (one_only rs k j before) [
    | inl was ↦ inl was
    | inr same ↦ inr (inl same)
  ]
  | inr later ↦ inr (inr later)
]

pub put_stays : (rs ks : List (List ℕ)) (j : List ℕ) → Among rs j → Among (put_all rs ks) j
put_stays rs [] j among = among
put_stays rs (k ∷ ks) j among = put_stays (put rs k) ks j (one_stays rs k j among)

pub put_there : (rs ks : List (List ℕ)) (j : List ℕ) → Among ks j → Among (put_all rs ks) j
put_there rs [] j nowhere = absurd nowhere
put_there rs (k ∷ ks) j (inl same) = subst (Among (put_all (put rs k) ks)) (sym same) (put_stays (put rs k) ks k (one_there rs k))
put_there rs (k ∷ ks) j (inr later) = put_there (put rs k) ks j later

pub put_get : (rs ks : List (List ℕ)) (i : ℕ) (q : List ℕ) → slice_get rs i ≡ Some q → slice_get (put_all rs ks) i ≡ Some q
put_get rs [] i q is = is
put_get rs (k ∷ ks) i q is = put_get (put rs k) ks i q (one_get rs k i q is)

-- names that grow at their end
pub put_end : (rs ks : List (List ℕ)) (k : List ℕ) → put_all rs (ks ++ k ∷ []) ≡ seen_also (put_all rs ks) k
put_end rs [] k = refl
put_end rs (j ∷ js) k = put_end (put rs j) js k

-- places

pub get_among : (rs : List (List ℕ)) (i : ℕ) (q : List ℕ) → slice_get rs i ≡ Some q → Among rs q
get_among [] i q is = cc
get_among (r ∷ rs) zero q is = inl (let e : Some r ≡ Some q = is in let f : r ≡ q = cc in sym f)
get_among (r ∷ rs) (suc i) q is = inr (get_among rs i q is)

pub among_get : (rs : List (List ℕ)) (q : List ℕ) → Among rs q → (i : ℕ) × (i < length rs) × (slice_get rs i ≡ Some q)
among_get [] q nowhere = absurd nowhere
among_get (r ∷ rs) q (inl same) = (zero, omega arith, ap Some (sym same))
among_get (r ∷ rs) q (inr later) = let x = among_get rs q later in (suc x.0, (let below = x.1 in omega arith), x.2)

pub get_there : (rs : List (List ℕ)) (i : ℕ) → i < length rs → (q : List ℕ) × (slice_get rs i ≡ Some q)
get_there [] i below = absurd (omega arith)
get_there (r ∷ rs) zero below = (r, refl)
get_there (r ∷ rs) (suc i) below = get_there rs i (omega arith)

-- a list of one name
pub only_among : (rs : List (List ℕ)) (q k : List ℕ) (t : Bool) → length rs ≡ 1 → slice_get rs 0 ≡ Some q → t ≡ name_eq q k → (t ≡ true) ↔ Among rs k
only_among [] q k t one there is = absurd (omega (arith, one))
only_among (r ∷ []) q k t one there is = ((λ same. inl (sym (first_is ∙ name_eq_is q k (sym is ∙ same)))), back)
  where
    first_is : r ≡ q
    first_is = cc there

    back : Among (r ∷ []) k → t ≡ true
    back (inl same) = is ∙ (ap (λ j. name_eq j k) (sym (same ∙ first_is)) ∙ name_eq_self k)
    back (inr nowhere) = absurd nowhere
only_among (r ∷ s ∷ rs) q k t one there is = absurd (omega (arith, one))

pub only_there : (rs : List (List ℕ)) → length rs ≡ 1 → ¬ (slice_get rs 0 ≡ None)
only_there [] one none = absurd (omega (arith, one))
only_there (r ∷ rs) one none = cc
