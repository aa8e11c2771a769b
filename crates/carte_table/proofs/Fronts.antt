-- Lists without their last items.
use Rattle.std.proofs.Common.{◌≡◌, ℕ, zero, suc, ◌-◌, ◌≤◌, List, [], ◌∷◌, ◌++◌, length, take, refl, ap, arith, length-append}
use Rattle.std.proofs.Math.Seq.{take-append_seam}
use Rattle.carte_table.specs.Changes.{front}

pub front_end : {A : Type 0} (xs : List A) (x : A) → front (xs ++ x ∷ []) ≡ xs
front_end {A = A} xs x =
    let e : length (xs ++ x ∷ []) - 1 ≡ length xs = omega (arith, length-append xs (x ∷ [])) in
    rw e (take-append_seam xs (x ∷ []))

pub take_whole : {A : Type 0} (n : ℕ) (xs : List A) → length xs ≤ n → take n xs ≡ xs
take_whole zero [] less = refl
take_whole zero (x ∷ xs) less = absurd (omega arith)
take_whole (suc n) [] less = refl
take_whole (suc n) (x ∷ xs) less = ap (λ ys. x ∷ ys) (take_whole n xs (omega arith))
