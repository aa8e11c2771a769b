-- What is found in a list with one item more.
use Rattle.std.proofs.Common.{◌≡◌, Bool, true, false, List, [], ◌∷◌, ◌++◌, Option, Some, None, refl, ap, sym, ◌∙◌, cond}
use Rattle.std.specs.Prelude.{find, option_map, if◌then◌else◌}
use Rattle.std.specs.Option.{option_or}
use Rattle.carte_table.specs.Lookups.{find_last}

pub or_twice : {A : Type 0} (a b c : Option A) → option_or (option_or a b) c ≡ option_or a (option_or b c)
or_twice None b c = refl
or_twice (Some x) b c = refl

pub or_none : {A : Type 0} (a : Option A) → option_or a None ≡ a
or_none None = refl
or_none (Some x) = refl

pub map_or : {A B : Type 0} (f : A → B) (a b : Option A) → option_map f (option_or a b) ≡ option_or (option_map f a) (option_map f b)
map_or f None b = refl
map_or f (Some x) b = refl

-- the first
pub find_end : {A : Type 0} (p : A → Bool) (xs : List A) (x : A) → find p (xs ++ x ∷ []) ≡ option_or (find p xs) (if p x then Some x else None)
find_end p [] x = on (p x)
  where
    on : (b : Bool) → cond b (Some x) None ≡ (if b then Some x else None)
    on true = refl
    on false = refl
find_end {A = A} p (y ∷ ys) x = on (p y) (find_end p ys x)
  where
    on : (b : Bool) → find p (ys ++ x ∷ []) ≡ option_or (find p ys) (if p x then Some x else None)
        → cond b (Some y) (find p (ys ++ x ∷ [])) ≡ option_or (cond b (Some y) (find p ys)) (if p x then Some x else None)
    on true is = refl
    on false is = is

-- the last
pub last_end : {A : Type 0} (p : A → Bool) (xs : List A) (x : A) → find_last p (xs ++ x ∷ []) ≡ option_or (if p x then Some x else None) (find_last p xs)
last_end p [] x = sym (or_none (if p x then Some x else None))
last_end p (y ∷ ys) x = ap (λ o. option_or o (if p y then Some y else None)) (last_end p ys x) ∙ or_twice (if p x then Some x else None) (find_last p ys) (if p y then Some y else None)
