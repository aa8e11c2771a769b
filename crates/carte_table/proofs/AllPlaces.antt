-- All places of a key in a list.
use Rattle.std.proofs.Common.{◌≡◌, ℕ, suc, Bool, true, false, List, [], ◌∷◌, ◌++◌, length, refl, ap, map, append-nil}
use Rattle.std.specs.Prelude.{if◌then◌else◌}
use Rattle.carte_table.specs.Changes.{front}
use Rattle.carte_table.specs.Places.{places, ArePlaces, AddsToPlaces, DropsPlace}
use Rattle.carte_table.proofs.Fronts.{front_end}

map_on : {A B : Type 0} (f : A → B) (xs ys : List A) → map f (xs ++ ys) ≡ map f xs ++ map f ys
map_on f [] ys = refl
map_on f (x ∷ xs) ys = ap (λ zs. f x ∷ zs) (map_on f xs ys)

-- one item more
pub places_end : {A : Type 0} (p : A → Bool) (xs : List A) (x : A) → places p (xs ++ x ∷ []) ≡ places p xs ++ (if p x then length xs ∷ [] else [])
places_end p [] x = refl
places_end {A = A} p (y ∷ ys) x = on (p y) (p x) (places_end p ys x)
  where
    later : (b : Bool) → map suc (if b then length ys ∷ [] else []) ≡ (if b then suc (length ys) ∷ [] else [])
    later true = refl
    later false = refl

    on : (b c : Bool) → places p (ys ++ x ∷ []) ≡ places p ys ++ (if c then length ys ∷ [] else [])
        → (if b then 0 ∷ map suc (places p (ys ++ x ∷ [])) else map suc (places p (ys ++ x ∷ []))) ≡ (if b then 0 ∷ map suc (places p ys) else map suc (places p ys)) ++ (if c then suc (length ys) ∷ [] else [])
    on true c is = rw (is, map_on suc (places p ys) (if c then length ys ∷ [] else []), later c) refl
    on false c is = rw (is, map_on suc (places p ys) (if c then length ys ∷ [] else []), later c) refl

-- with its place in the table
pub places_added : {K A : Type 0} (eq : K → K → Bool) (is_of : K → A → Bool) (xs : List A) (x : A) (k : K) (old new : K → List ℕ) (n : ℕ) → n ≡ length xs
    → ((q : K) → is_of q x ≡ eq k q) → ArePlaces is_of xs old → AddsToPlaces eq old new k n → ArePlaces is_of (xs ++ x ∷ []) new
places_added eq is_of xs x k old new n end same are adds q = rw (adds q, are q, places_end (is_of q) xs x, same q, end) (on (eq k q))
  where
    on : (b : Bool) → (if b then places (is_of q) xs ++ length xs ∷ [] else places (is_of q) xs) ≡ places (is_of q) xs ++ (if b then length xs ∷ [] else [])
    on true = refl
    on false = rw append-nil refl

-- without the last item, and its place
pub places_dropped : {K A : Type 0} (eq : K → K → Bool) (is_of : K → A → Bool) (xs : List A) (x : A) (k : K) (old new : K → List ℕ)
    → ((q : K) → is_of q x ≡ eq k q) → ArePlaces is_of (xs ++ x ∷ []) old → DropsPlace eq old new k → ArePlaces is_of xs new
places_dropped eq is_of xs x k old new same are drops q = rw (drops q, are q, places_end (is_of q) xs x, same q) (on (eq k q))
  where
    on : (b : Bool) → (if b then front (places (is_of q) xs ++ (if b then length xs ∷ [] else [])) else places (is_of q) xs ++ (if b then length xs ∷ [] else [])) ≡ places (is_of q) xs
    on true = front_end (places (is_of q) xs) (length xs)
    on false = append-nil (places (is_of q) xs)
