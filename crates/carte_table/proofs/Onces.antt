-- Lists in which no key comes twice.
use Rattle.std.proofs.Common.{◌≡◌, ℕ, suc, Bool, true, false, cond, List, [], ◌∷◌, length, map, Option, Some, None, refl, ap, ap₂, sym, ◌∙◌, subst, arith}
use Rattle.std.specs.Prelude.{find, is_some, option_map, ◌||◌, if◌then◌else◌}
use Rattle.std.specs.Option.{option_or}
use Rattle.std.specs.Cmp.{IsEquivalence}
use Rattle.std.specs.List.{list_any, IsDistinct, AllByRecursion}
use Rattle.std.specs.Set.{is_member}
use Rattle.std.specs.Map.{lookup, keys_of}
use Rattle.std.proofs.lemmas.List.{length-map}
use Rattle.std.proofs.lemmas.Map.Made.{is_some-lookup, length-from_keys, IsDistinct-from_count}
use Rattle.carte_name.specs.Names.{name_eq}
use Rattle.carte_table.specs.Lookups.{find_last}
use Rattle.carte_table.specs.Places.{first_place, IsFirstPlaces}
use Rattle.carte_table.proofs.Names.{name_eq_is}
use Rattle.carte_table.proofs.Found.{or_none}
use Rattle.carte_table.proofs.Steps.{of_key}

some_place : {A : Type 0} (p : A → Bool) (xs : List A) → is_some (first_place p xs) ≡ list_any p xs
some_place p [] = refl
some_place {A = A} p (x ∷ xs) = on (p x) (first_place p xs) (some_place p xs)
  where
    on : (b : Bool) (o : Option ℕ) → is_some o ≡ list_any p xs → is_some (if b then Some 0 else option_map suc o) ≡ (b || list_any p xs)
    on true o is = refl
    on false None is = is
    on false (Some n) is = is

any_key : {K A : Type 0} (test : K → Bool) (p : A → Bool) (key : A → K) → ((x : A) → p x ≡ test (key x)) → (xs : List A) → list_any p xs ≡ list_any test (map key xs)
any_key test p key same [] = refl
any_key test p key same (x ∷ xs) = ap₂ (λ b c. b || c) (same x) (any_key test p key same xs)

-- a table of the first places has as many keys as there are items, so all keys are distinct
pub keys_distinct : {K A : Type 0} {eq : K → K → Bool} (laws : IsEquivalence eq) (is_of : K → A → Bool) (key : A → K) → ((k : K) (x : A) → is_of k x ≡ eq k (key x)) → (xs : List A) (table : List (K × ℕ))
    → IsDistinct eq (keys_of table) → IsFirstPlaces is_of xs (λ q. lookup (eq q) table) → length xs ≡ length table → IsDistinct eq (map key xs)
keys_distinct {K = K} {eq = eq} laws is_of key same xs table distinct places many =
    let members : (q : K) → is_member eq (keys_of table) q ≡ is_member eq (map key xs) q = λ q. sym (is_some-lookup (eq q) table) ∙ ap is_some (places q) ∙ some_place (is_of q) xs ∙ any_key (eq q) (is_of q) key (same q) xs in
    let count = length-from_keys laws (keys_of table) (map key xs) distinct members in
    IsDistinct-from_count laws (map key xs) (sym count ∙ length-map table (λ e. e.0) ∙ sym many ∙ sym (length-map xs key))

no_last : {A : Type 0} (key : A → List ℕ) (j : List ℕ) (xs : List A) → AllByRecursion (λ k. name_eq j k ≡ false) (map key xs) → find_last (of_key key j) xs ≡ None
no_last key j [] all = refl
no_last {A = A} key j (x ∷ xs) all = on (find_last (of_key key j) xs) (name_eq j (key x)) (no_last key j xs all.1) all.0
  where
    on : (o : Option A) (b : Bool) → o ≡ None → b ≡ false → option_or o (if b then Some x else None) ≡ None
    on None true none is = cc
    on None false none is = refl
    on (Some y) b none is = cc

-- then the first item of a key is its last
pub first_is_last : {A : Type 0} (key : A → List ℕ) (xs : List A) → IsDistinct name_eq (map key xs) → (k : List ℕ) → find (of_key key k) xs ≡ find_last (of_key key k) xs
unfolding IsDistinct
first_is_last key [] distinct k = refl
first_is_last {A = A} key (x ∷ xs) distinct k = on (name_eq k (key x)) (name_eq_is k (key x)) (no_last key (key x) xs distinct.0) (first_is_last key xs distinct.1 k)
  where
    on : (b : Bool) → (b ≡ true → k ≡ key x) → find_last (of_key key (key x)) xs ≡ None → find (of_key key k) xs ≡ find_last (of_key key k) xs → cond b (Some x) (find (of_key key k) xs) ≡ option_or (find_last (of_key key k) xs) (if b then Some x else None)
    on true is none rest = sym (ap (λ o. option_or o (Some x)) (subst (λ j. find_last (of_key key j) xs ≡ None) (sym (is refl)) none))
    on false is none rest = rest ∙ sym (or_none (find_last (of_key key k) xs))

pub empty_list : {A : Type 0} (xs : List A) → length xs ≡ 0 → xs ≡ []
empty_list [] none = refl
empty_list (x ∷ xs) none = absurd (omega arith)
