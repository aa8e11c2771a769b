-- What is found of names, one after another.
use Rattle.std.proofs.Common.{◌≡◌, ℕ, Bool, true, false, cond, List, [], ◌∷◌, ◌++◌, Option, Some, None, refl, ap, sym, ◌∙◌, map, filter, inl, inr}
use Rattle.std.specs.Prelude.{◌||◌, ◌&&◌, if◌then◌else◌, find}
use Rattle.std.specs.Option.{option_or}
use Rattle.carte_name.specs.Names.{name_eq}
use Rattle.carte_value.specs.Truths.{Among, IsListOf}
use Rattle.carte_table.specs.Lookups.{find_last}
use Rattle.carte_table.proofs.Found.{or_none}
use Rattle.carte_table.proofs.Names.{name_eq_is, name_eq_self, name_eq_sym}
use Rattle.carte_record.specs.Folds.{is_among}
use Rattle.carte_record.proofs.Looked.{none_found}
use Rattle.carte_compact.specs.Live.{found_at, put}

pub found_more : {A : Type 0} (f : List ℕ → Option A) (ns : List (List ℕ)) (n : List ℕ) → found_at f (ns ++ n ∷ []) ≡ found_at f ns ++ put (f n) []
found_more f [] n = refl
found_more f (m ∷ ms) n = ap (put (f m)) (found_more f ms n) ∙ on (f m)
  where
    on : (o : Option _) → put o (found_at f ms ++ put (f n) []) ≡ put o (found_at f ms) ++ put (f n) []
    on None = refl
    on (Some x) = refl

-- a name stands in the list where the test says so
among_test : (ks : List (List ℕ)) (k : List ℕ) → Among ks k → is_among ks k ≡ true
among_test [] k nowhere = absurd nowhere
among_test (j ∷ js) k there = on (name_eq j k) refl (among_test js k) there
  where
    on : (b : Bool) → name_eq j k ≡ b → (Among js k → is_among js k ≡ true) → Among (j ∷ js) k → b || is_among js k ≡ true
    on true same rest h = refl
    on false apart rest (inl is) = let clash : true ≡ false = sym (name_eq_self k) ∙ ap (λ i. name_eq i k) is ∙ apart in cc
    on false apart rest (inr later) = rest later

-- of the names that a test lets through
pub among_let : (p : List ℕ → Bool) (ks : List (List ℕ)) (k : List ℕ) → is_among (filter p ks) k ≡ (is_among ks k && p k)
among_let p [] k = refl
among_let p (j ∷ js) k = on (p j) refl (name_eq j k) refl (among_let p js k)
  where
    both : (b : Bool) → b && false ≡ false
    both true = refl
    both false = refl

    on : (b : Bool) → p j ≡ b → (c : Bool) → name_eq j k ≡ c → is_among (filter p js) k ≡ (is_among js k && p k)
        → is_among (cond b (j ∷ filter p js) (filter p js)) k ≡ ((c || is_among js k) && p k)
    on true passes true same rest = rw same (sym (ap p (sym (name_eq_is j k same)) ∙ passes))
    on true passes false apart rest = rw apart rest
    on false fails true same rest = let no : p k ≡ false = ap p (sym (name_eq_is j k same)) ∙ fails in rest ∙ rw no (both (is_among js k))
    on false fails false apart rest = rest

module _ {A : Type 0} (key : A → List ℕ) where
  abbrev of_key : List ℕ → A → Bool
  of_key k x = name_eq k (key x)

  module _ (f : List ℕ → Option A) (own : (n : List ℕ) (x : A) → f n ≡ Some x → key x ≡ n) where
    last_found : (ns : List (List ℕ)) (k : List ℕ) → find_last (of_key k) (found_at f ns) ≡ (if is_among ns k then f k else None)
    last_found [] k = refl
    last_found (n ∷ ns) k = on (f n) refl (name_eq n k) refl (last_found ns k)
      where
        at : name_eq n k ≡ true → f k ≡ f n
        at same = ap f (sym (name_eq_is n k same))

        none : f k ≡ None → (c : Bool) → (if c then f k else None) ≡ f k
        none is true = refl
        none is false = sym is

        some : (x : A) → (c : Bool) → option_or (if c then Some x else None) (Some x) ≡ Some x
        some x true = refl
        some x false = refl

        on : (o : Option A) → f n ≡ o → (b : Bool) → name_eq n k ≡ b → find_last (of_key k) (found_at f ns) ≡ (if is_among ns k then f k else None)
            → find_last (of_key k) (put o (found_at f ns)) ≡ (if b || is_among ns k then f k else None)
        on None is true same rest = rest ∙ none (at same ∙ is) (is_among ns k)
        on None is false apart rest = rest
        on (Some x) is true same rest =
            let here : name_eq k (key x) ≡ true = ap (name_eq k) (own n x is) ∙ name_eq_sym k n ∙ same in
            rw (here, rest, at same ∙ is) (some x (is_among ns k))
        on (Some x) is false apart rest =
            let there : name_eq k (key x) ≡ false = ap (name_eq k) (own n x is) ∙ name_eq_sym k n ∙ apart in
            rw there (or_none (find_last (of_key k) (found_at f ns)) ∙ rest)

    -- where all names are given of which there is something
    pub each_found : (ns : List (List ℕ)) (k : List ℕ) → (is_among ns k ≡ false → f k ≡ None) → find_last (of_key k) (found_at f ns) ≡ f k
    each_found ns k lacks = last_found ns k ∙ on (is_among ns k) lacks
      where
        on : (b : Bool) → (b ≡ false → f k ≡ None) → (if b then f k else None) ≡ f k
        on true none = refl
        on false none = sym (none refl)

  -- nothing is found of a name that isn't listed
  pub unlisted : (xs : List A) (ns : List (List ℕ)) (k : List ℕ) → IsListOf (Among (map key xs)) ns → is_among ns k ≡ false → find (of_key k) xs ≡ None
  unlisted xs ns k listed apart = (none_found key xs k (λ there. let clash : true ≡ false = sym (among_test ns k (listed.each k there)) ∙ apart in cc)).0
