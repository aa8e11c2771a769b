-- How often a name stands in a ledger.
use Rattle.std.proofs.Common.{◌≡◌, ℕ, ◌+◌, true, false, cond, List, [], ◌∷◌, ◌++◌, refl, ◌∙◌, arith}
use Rattle.std.specs.Cmp.Lexicographic.{nat_list_eq_equiv}
use Rattle.carte_name.specs.Names.{name_eq}
use Rattle.carte_value.proofs.Members.{name_apart}
use Rattle.carte_rebuild.specs.Ends.{times}

pub times_end : (k j : List ℕ) (xs : List (List ℕ)) → times k (xs ++ j ∷ []) ≡ times k xs + cond {A = ℕ} (name_eq k j) 1 0
times_end k j [] = omega arith
times_end k j (x ∷ xs) = omega (arith, times_end k j xs)

-- one more of the name, and no more of another
pub times_here : (k : List ℕ) (xs : List (List ℕ)) → times k (xs ++ k ∷ []) ≡ times k xs + 1
times_here k xs = let same : name_eq k k ≡ true = nat_list_eq_equiv.refl k in times_end k k xs ∙ rw same refl

pub times_apart : (k q : List ℕ) (xs : List (List ℕ)) → ¬ (q ≡ k) → times q (xs ++ k ∷ []) ≡ times q xs
times_apart k q xs other = let none : name_eq q k ≡ false = name_apart q k other in times_end q k xs ∙ rw none (omega arith)
