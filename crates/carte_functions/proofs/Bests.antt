-- The least and the greatest of numbers that are taken one by one.
use Rattle.std.proofs.Common.{◌≡◌, ℤ, List, [], ◌∷◌, refl, arith}
use Rattle.std.specs.Int.{int_min, int_max}
use Rattle.carte_tree.specs.Numbers.{least, greatest}

int_min-int_min : (k m n : ℤ) → int_min (int_min k m) n ≡ int_min k (int_min m n)
int_min-int_min k m n = grind arith

int_max-int_max : (k m n : ℤ) → int_max (int_max k m) n ≡ int_max k (int_max m n)
int_max-int_max k m n = grind arith

pub least_of_min : (m n : ℤ) (ns : List ℤ) → least (int_min m n ∷ ns) ≡ least (m ∷ n ∷ ns)
least_of_min m n [] = refl
least_of_min m n (p ∷ ps) = int_min-int_min m n (least (p ∷ ps))

pub greatest_of_max : (m n : ℤ) (ns : List ℤ) → greatest (int_max m n ∷ ns) ≡ greatest (m ∷ n ∷ ns)
greatest_of_max m n [] = refl
greatest_of_max m n (p ∷ ps) = int_max-int_max m n (greatest (p ∷ ps))
