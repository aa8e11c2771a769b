-- Of equal items the last, with one item more.
use Rattle.std.proofs.Common.{◌≡◌, ◌≤◌, ℕ, suc, ◌+◌, Bool, true, false, cond, List, [], ◌∷◌, ◌++◌, length, map, refl, ap, sym, ◌∙◌, subst, arith, length-append}
use Rattle.std.specs.Prelude.{◌||◌, if◌then◌else◌}
use Rattle.std.specs.List.{flat_map, list_any}
use Rattle.std.proofs.lemmas.List.Concat.{flat_map-append}
use Rattle.carte_name.specs.Names.{name_eq}
use Rattle.carte_table.specs.Places.{places}
use Rattle.carte_table.specs.Lookups.{has_key}
use Rattle.carte_table.specs.Latest.{last_ones, latest_length, stands_at}
use Rattle.carte_table.proofs.Names.{name_eq_self}

any_map : {A B : Type 0} (p : B → Bool) (f : A → B) (xs : List A) → list_any p (map f xs) ≡ list_any (λ x. p (f x)) xs
any_map p f [] = refl
any_map p f (x ∷ xs) = ap (λ b. p (f x) || b) (any_map p f xs)

any_end : {A : Type 0} (p : A → Bool) (xs : List A) (x : A) → list_any p (xs ++ x ∷ []) ≡ (list_any p xs || p x)
any_end p [] x = on (p x)
  where
    on : (b : Bool) → (b || false) ≡ (false || b)
    on true = refl
    on false = refl
any_end p (y ∷ ys) x = on (p y) (any_end p ys x)
  where
    on : (b : Bool) → list_any p (ys ++ x ∷ []) ≡ (list_any p ys || p x) → (b || list_any p (ys ++ x ∷ [])) ≡ ((b || list_any p ys) || p x)
    on true is = refl
    on false is = is

neither : (b c : Bool) → (b || c) ≡ false → (b ≡ false) × (c ≡ false)
neither true c is = cc
neither false c is = (refl, is)

module _ {A : Type 0} (alike : A → A → Bool) (is : (x y : A) → alike x y ≡ true → x ≡ y) where
  -- ---- an equal one stands at a place of the key, or nowhere

  pub at_places : (key : A → List ℕ) (x : A) (xs : List A) → list_any (stands_at alike x xs) (places (has_key key (key x)) xs) ≡ list_any (alike x) xs
  at_places key x [] = refl
  at_places key x (y ∷ ys) = on (name_eq (key x) (key y)) refl (alike x y) refl (at_places key x ys)
    where
      here : List ℕ
      here = places (has_key key (key x)) ys

      later : list_any (stands_at alike x (y ∷ ys)) (map suc here) ≡ list_any (stands_at alike x ys) here
      later = any_map (stands_at alike x (y ∷ ys)) suc here

      on : (b : Bool) → name_eq (key x) (key y) ≡ b → (t : Bool) → alike x y ≡ t → list_any (stands_at alike x ys) here ≡ list_any (alike x) ys
          → list_any (stands_at alike x (y ∷ ys)) (cond b (0 ∷ map suc here) (map suc here)) ≡ (alike x y || list_any (alike x) ys)
      on true one t same rest = ap (λ b. alike x y || b) (later ∙ rest)
      on false one true same rest = let no : false ≡ true = sym one ∙ ap (λ z. name_eq (key x) (key z)) (sym (is x y same)) ∙ name_eq_self (key x) in cc
      on false one false same rest = rw same (later ∙ rest)

  -- ---- one item more

  turned : ((x : A) → alike x x ≡ true) → (x y : A) → alike y x ≡ false → alike x y ≡ false
  turned self x y other = on (alike x y) refl
    where
      on : (b : Bool) → alike x y ≡ b → b ≡ false
      on true same = sym (self y) ∙ ap (alike y) (sym (is x y same)) ∙ other
      on false same = refl

  new_end : ((x : A) → alike x x ≡ true) → (y : A) (xs : List A) → list_any (alike y) xs ≡ false → last_ones alike (xs ++ y ∷ []) ≡ last_ones alike xs ++ y ∷ []
  new_end self y [] new = refl
  new_end self y (x ∷ xs) new =
      let parts = neither (alike y x) (list_any (alike y) xs) new in
      rw (any_end (alike x) xs y, turned self x y parts.0) (on (list_any (alike x) xs) (new_end self y xs parts.1))
    where
      on : (b : Bool) → last_ones alike (xs ++ y ∷ []) ≡ last_ones alike xs ++ y ∷ [] → (if b || false then last_ones alike (xs ++ y ∷ []) else x ∷ last_ones alike (xs ++ y ∷ [])) ≡ (if b then last_ones alike xs else x ∷ last_ones alike xs) ++ y ∷ []
      on true rest = rest
      on false rest = ap (λ zs. x ∷ zs) rest

  module _ (spelled : A → List ℕ) (self : (x : A) → alike x x ≡ true) where
    head : (x : A) (xs : List A) → length (flat_map spelled (x ∷ xs)) ≡ length (spelled x) + length (flat_map spelled xs)
    head x xs = length-append (spelled x) (flat_map spelled xs)

    pub new_long : (y : A) (xs : List A) → list_any (alike y) xs ≡ false → latest_length alike spelled (xs ++ y ∷ []) ≡ latest_length alike spelled xs + length (spelled y)
    new_long y xs new =
        ap (λ zs. length (flat_map spelled zs)) (new_end self y xs new) ∙ ap length (flat_map-append spelled (last_ones alike xs) (y ∷ []))
        ∙ length-append (flat_map spelled (last_ones alike xs)) (flat_map spelled (y ∷ [])) ∙ ap (λ n. latest_length alike spelled xs + n) (omega (arith, head y []))

    -- it is no shorter then, and longer by this one at most
    pub any_long : (y : A) (xs : List A) → (latest_length alike spelled xs ≤ latest_length alike spelled (xs ++ y ∷ [])) × (latest_length alike spelled (xs ++ y ∷ []) ≤ latest_length alike spelled xs + length (spelled y))
    any_long y [] = (omega arith, omega (arith, head y []))
    any_long y (x ∷ xs) = rw (any_end (alike x) xs y) (on (list_any (alike x) xs) refl (alike x y) refl (any_long y xs))
      where
        on : (b : Bool) → list_any (alike x) xs ≡ b → (c : Bool) → alike x y ≡ c
            → (latest_length alike spelled xs ≤ latest_length alike spelled (xs ++ y ∷ [])) × (latest_length alike spelled (xs ++ y ∷ []) ≤ latest_length alike spelled xs + length (spelled y))
            → (length (flat_map spelled (if b then last_ones alike xs else x ∷ last_ones alike xs)) ≤ length (flat_map spelled (if b || c then last_ones alike (xs ++ y ∷ []) else x ∷ last_ones alike (xs ++ y ∷ []))))
            × (length (flat_map spelled (if b || c then last_ones alike (xs ++ y ∷ []) else x ∷ last_ones alike (xs ++ y ∷ []))) ≤ length (flat_map spelled (if b then last_ones alike xs else x ∷ last_ones alike xs)) + length (spelled y))
        on true later c same rest = rest
        on false last false other rest = (omega (arith, head x (last_ones alike xs), head x (last_ones alike (xs ++ y ∷ [])), rest.0), omega (arith, head x (last_ones alike xs), head x (last_ones alike (xs ++ y ∷ [])), rest.1))
        on false last true same rest =
            let one : x ≡ y = is x y same in
            let new : list_any (alike y) xs ≡ false = subst (λ z. list_any (alike z) xs ≡ false) one last in
            let long = ap (λ z. length (spelled z)) one in
            (omega (arith, head x (last_ones alike xs), new_long y xs new, long), omega (arith, head x (last_ones alike xs), new_long y xs new, long))
