-- Of equal items the last, found from the end on.
use Rattle.std.proofs.Common.{◌≡◌, Bool, true, false, not, cond, List, [], ◌∷◌, ◌++◌, map, reverse, refl, ap, sym, ◌∙◌}
use Rattle.std.specs.Prelude.{◌||◌}
use Rattle.std.specs.List.{list_any}
use Rattle.std.proofs.lemmas.Grind.{reverse_onto}
use Rattle.carte_table.proofs.FirstPlaces.{map_end}
use Rattle.carte_table.specs.Latest.{last_ones}

pub not_from : (b c : Bool) → b ≡ not c → b ≡ true → c ≡ false
not_from b true is so = cc
not_from b false is so = refl

pub not_to : (b c : Bool) → b ≡ not c → b ≡ false → c ≡ true
not_to b true is so = refl
not_to b false is so = cc

module _ {A : Type 0} (alike : A → A → Bool) where
  -- an item in front that comes later too, and one that doesn't
  pub passed : (x : A) (xs all old : List A) → list_any (alike x) xs ≡ true → old ≡ reverse (last_ones alike xs) → all ≡ x ∷ xs → old ≡ reverse (last_ones alike all)
  passed x xs all old later is so = is ∙ sym (rw (so, later) refl)

  pub added : (x : A) (xs all old new : List A) → list_any (alike x) xs ≡ false → old ≡ reverse (last_ones alike xs) → new ≡ old ++ x ∷ [] → all ≡ x ∷ xs → new ≡ reverse (last_ones alike all)
  added x xs all old new last is more so = more ∙ ap (λ ys. ys ++ x ∷ []) is ∙ sym (reverse_onto (last_ones alike xs) x []) ∙ sym (rw (so, last) refl)

  -- which items the set then has
  pub told : ((y z : A) → alike y z ≡ alike z y) → (x q : A) (xs all : List A) (old new : Bool) → new ≡ cond (alike x q) true old → old ≡ list_any (alike q) xs → all ≡ x ∷ xs → new ≡ list_any (alike q) all
  told turned x q xs all old new is was so = is ∙ rw (was, so, turned x q) (on (alike q x))
    where
      on : (b : Bool) → cond b true (list_any (alike q) xs) ≡ (b || list_any (alike q) xs)
      on true = refl
      on false = refl

pub map_reverse : {A B : Type 0} (f : A → B) (xs : List A) → map f (reverse xs) ≡ reverse (map f xs)
map_reverse f [] = refl
map_reverse f (x ∷ xs) = ap (map f) (reverse_onto xs x []) ∙ map_end f (reverse xs) x ∙ ap (λ ys. ys ++ f x ∷ []) (map_reverse f xs) ∙ sym (reverse_onto (map f xs) (f x) [])
