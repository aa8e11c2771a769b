-- How many bytes a list takes that has one item changed.
use Rattle.std.proofs.Common.{◌≡◌, ◌<◌, ℕ, zero, suc, ◌+◌, Bool, true, false, List, [], ◌∷◌, length, Option, Some, None, refl, ap, ◌∙◌, arith, length-append}
use Rattle.std.specs.Prelude.{IfSome, option_map, slice_get, if◌then◌else◌}
use Rattle.std.specs.List.{flat_map}
use Rattle.carte_table.specs.Changes.{change_first}
use Rattle.carte_table.specs.Places.{first_place}

pub changed_long : {A : Type 0} (spelled : A → List ℕ) (p : A → Bool) (y : A) (xs : List A) (i : ℕ) (x : A) → first_place p xs ≡ Some i → slice_get xs i ≡ Some x
    → length (flat_map spelled (change_first p (λ z. y) xs)) + length (spelled x) ≡ length (flat_map spelled xs) + length (spelled y)
changed_long spelled p y [] i x is there = cc
changed_long {A = A} spelled p y (z ∷ zs) i x is there = on (p z) (first_place p zs) (λ j. changed_long spelled p y zs j x) i is there
  where
    head : (w : A) (ws : List A) → length (flat_map spelled (w ∷ ws)) ≡ length (spelled w) + length (flat_map spelled ws)
    head w ws = length-append (spelled w) (flat_map spelled ws)

    on : (b : Bool) (o : Option ℕ)
        → ((j : ℕ) → o ≡ Some j → slice_get zs j ≡ Some x → length (flat_map spelled (change_first p (λ z. y) zs)) + length (spelled x) ≡ length (flat_map spelled zs) + length (spelled y))
        → (i : ℕ) → (if b then Some 0 else option_map suc o) ≡ Some i → slice_get (z ∷ zs) i ≡ Some x
        → length (flat_map spelled (if b then y ∷ zs else z ∷ change_first p (λ z. y) zs)) + length (spelled x) ≡ length (flat_map spelled (z ∷ zs)) + length (spelled y)
    on true o before zero is there = let same : z ≡ x = cc in omega (arith, head y zs, head z zs, ap (λ w. length (spelled w)) same)
    on true o before (suc i) is there = cc
    on false None before i is there = cc
    on false (Some j) before zero is there = cc
    on false (Some j) before (suc i) is there =
        let e : j ≡ i = cc in
        let rest = before j refl (ap (slice_get zs) e ∙ there) in
        omega (arith, head z (change_first p (λ z. y) zs), head z zs, rest)

pub whatever_known : (known : Option ℕ) (P : Type 0) → P → IfSome known (λ n. P)
whatever_known (Some n) P is = is
whatever_known None P is = tt

pub one_there : {A : Type 0} (xs : List A) (i : ℕ) → i < length xs → ¬ (slice_get xs i ≡ None)
one_there [] i below = absurd (omega arith)
one_there (x ∷ xs) zero below = λ none. let no : Some x ≡ None = none in cc
one_there (x ∷ xs) (suc i) below = one_there xs i (omega arith)
