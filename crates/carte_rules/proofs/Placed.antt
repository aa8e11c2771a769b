-- Items put at keys at which nothing stands: the order doesn't matter.
use Rattle.std.proofs.Common.{◌≡◌, ℕ, Bool, true, false, cond, List, Option, Some, None, is_some, option_map, option_and_then, refl, sym, ap, subst, ◌∙◌, inl, inr}
use Rattle.std.specs.FinMap.{get, insert, get-insert, same_map, slice_cmp-IsAntisymmetric, nat_cmp-IsAntisymmetric}
use Rattle.std.specs.Ordering.{eq_by_cmp}
use Rattle.std.specs.Cmp.{Equal-is, eq_by_cmp_equiv}
use Rattle.std.proofs.lemmas.Bool.{cases_Bool, false≢true}
use Rattle.std.proofs.lemmas.Cmp.{nat_list_cmp_total}
use Rattle.carte_name.specs.Names.{name_cmp}
use Rattle.carte_book.specs.Book.{Item}
use Rattle.carte_rules.specs.Reading.{Content}

abbrev same_key : List ℕ → List ℕ → Bool
same_key k l = eq_by_cmp name_cmp k l

-- what is there to put, where nothing stands there
abbrev pub put_at : List ℕ → Option Item → Content → Option Content
put_at k o m = cond (is_some (get m k)) None (option_map (insert m k) o)

free : (k : List ℕ) (o : Option Item) (m : Content) → is_some (get m k) ≡ false → put_at k o m ≡ option_map (insert m k) o
free k o m none = rw none refl

taken : (k : List ℕ) (o : Option Item) (m : Content) → is_some (get m k) ≡ true → put_at k o m ≡ None
taken k o m there = rw there refl

stands : (k : List ℕ) (x : Item) (m : Content) → is_some (get (insert m k x) k) ≡ true
stands k x m = ap is_some (get-insert nat_list_cmp_total m k x k ∙ ap (λ (b : Bool). cond b (Some x) (get m k)) ((eq_by_cmp_equiv nat_list_cmp_total).refl k))

other : (k l : List ℕ) (x : Item) (m : Content) → same_key l k ≡ false → is_some (get (insert m k x) l) ≡ is_some (get m l)
other k l x m apart = ap is_some (get-insert nat_list_cmp_total m k x l ∙ ap (λ (b : Bool). cond b (Some x) (get m l)) apart)

-- nothing is put twice at a key
again : (k : List ℕ) (o p : Option Item) (m : Content) → option_and_then (put_at k p) (put_at k o m) ≡ None
again k o p m = by (is_some (get m k)) o refl
  where
    by : (b : Bool) (o : Option Item) → is_some (get m k) ≡ b → option_and_then (put_at k p) (put_at k o m) ≡ None
    by true o there = ap (option_and_then (put_at k p)) (taken k o m there)
    by false None none = ap (option_and_then (put_at k p)) (free k None m none)
    by false (Some x) none = ap (option_and_then (put_at k p)) (free k (Some x) m none) ∙ taken k p (insert m k x) (stands k x m)

swapped : (a b : Bool) (x y : Item) (o : Option Item) → (a ≡ true → b ≡ true → ⊥) → cond b (Some y) (cond a (Some x) o) ≡ cond a (Some x) (cond b (Some y) o)
swapped true true x y o apart = absurd (apart refl refl)
swapped true false x y o apart = refl
swapped false b x y o apart = refl

both : (k l q : List ℕ) → same_key k l ≡ false → same_key q k ≡ true → same_key q l ≡ true → ⊥
both k l q apart one two =
    let e = eq_by_cmp_equiv nat_list_cmp_total in
    false≢true (sym apart ∙ sym (e.congr q k l one) ∙ two)

-- what is put at two keys is the same in either order
insert_comm : (k l : List ℕ) (x y : Item) (m : Content) → same_key k l ≡ false → insert (insert m k x) l y ≡ insert (insert m l y) k x
insert_comm k l x y m apart = same_map nat_list_cmp_total (slice_cmp-IsAntisymmetric nat_cmp-IsAntisymmetric) _ _ (λ q.
    get-insert nat_list_cmp_total (insert m k x) l y q
    ∙ ap (cond (same_key q l) (Some y)) (get-insert nat_list_cmp_total m k x q)
    ∙ swapped (same_key q k) (same_key q l) x y (get m q) (both k l q apart)
    ∙ ap (cond (same_key q k) (Some x)) (sym (get-insert nat_list_cmp_total m l y q))
    ∙ sym (get-insert nat_list_cmp_total (insert m l y) k x q))

module _ (k l : List ℕ) (m : Content) (apart : same_key k l ≡ false) where
  turned : same_key l k ≡ false
  turned = (eq_by_cmp_equiv nat_list_cmp_total).symm l k ∙ apart

  -- where something stands at the first key, or nothing comes there
  none_first : (p : Option Item) → is_some (get m k) ≡ true → (o : Option Item) → option_and_then (put_at k o) (put_at l p m) ≡ None
  none_first p there o = by (is_some (get m l)) p refl
    where
      by : (b : Bool) (p : Option Item) → is_some (get m l) ≡ b → option_and_then (put_at k o) (put_at l p m) ≡ None
      by true p found = ap (option_and_then (put_at k o)) (taken l p m found)
      by false None none = ap (option_and_then (put_at k o)) (free l None m none)
      by false (Some y) none = ap (option_and_then (put_at k o)) (free l (Some y) m none) ∙ taken k o (insert m l y) (other l k y m apart ∙ there)

  both_free : is_some (get m k) ≡ false → is_some (get m l) ≡ false → (o p : Option Item) → option_and_then (put_at l p) (put_at k o m) ≡ option_and_then (put_at k o) (put_at l p m)
  both_free a b None None = ap (option_and_then (put_at l None)) (free k None m a) ∙ sym (ap (option_and_then (put_at k None)) (free l None m b))
  both_free a b None (Some y) =
      ap (option_and_then (put_at l (Some y))) (free k None m a)
      ∙ sym (ap (option_and_then (put_at k None)) (free l (Some y) m b) ∙ free k None (insert m l y) (other l k y m apart ∙ a))
  both_free a b (Some x) None =
      ap (option_and_then (put_at l None)) (free k (Some x) m a) ∙ free l None (insert m k x) (other k l x m turned ∙ b)
      ∙ sym (ap (option_and_then (put_at k (Some x))) (free l None m b))
  both_free a b (Some x) (Some y) =
      ap (option_and_then (put_at l (Some y))) (free k (Some x) m a) ∙ free l (Some y) (insert m k x) (other k l x m turned ∙ b)
      ∙ ap Some (insert_comm k l x y m apart)
      ∙ sym (ap (option_and_then (put_at k (Some x))) (free l (Some y) m b) ∙ free k (Some x) (insert m l y) (other l k y m apart ∙ a))

apart_comm : (k l : List ℕ) (m : Content) → same_key k l ≡ false → (o p : Option Item) → option_and_then (put_at l p) (put_at k o m) ≡ option_and_then (put_at k o) (put_at l p m)
apart_comm k l m apart o p = by (is_some (get m k)) (is_some (get m l)) refl refl
  where
    by : (a b : Bool) → is_some (get m k) ≡ a → is_some (get m l) ≡ b → option_and_then (put_at l p) (put_at k o m) ≡ option_and_then (put_at k o) (put_at l p m)
    by true b there is = ap (option_and_then (put_at l p)) (taken k o m there) ∙ sym (none_first k l m apart p there o)
    by false true is there = none_first l k m (turned k l m apart) o there p ∙ sym (ap (option_and_then (put_at k o)) (taken l p m there))
    by false false a b = both_free k l m apart a b o p

pub put_comm : (k l : List ℕ) (o p : Option Item) (m : Content) → option_and_then (put_at l p) (put_at k o m) ≡ option_and_then (put_at k o) (put_at l p m)
put_comm k l o p m = elim (cases_Bool (same_key k l)) [
  | inl tie ↦ subst (λ (q : List ℕ). option_and_then (put_at q p) (put_at k o m) ≡ option_and_then (put_at k o) (put_at q p m)) (same k l tie) (again k o p m ∙ sym (again k p o m))
  | inr apart ↦ apart_comm k l m apart o p
]
  where
    same : (k l : List ℕ) → same_key k l ≡ true → k ≡ l
    same k l tie = slice_cmp-IsAntisymmetric nat_cmp-IsAntisymmetric k l ((Equal-is (name_cmp k l)).0 tie)

pub put_twice : (k l : List ℕ) (o p : Option Item) (m : Content) → k ≡ l → option_and_then (put_at l p) (put_at k o m) ≡ None
put_twice k l o p m same = subst (λ (q : List ℕ). option_and_then (put_at q p) (put_at k o m) ≡ None) same (again k o p m)
