-- Items as members of a set, by a test that finds the equal ones.
use Rattle.std.specs.Prelude.{◌≡◌, ℕ, Bool, true, List, IsTrue}
use Rattle.std.proofs.Common.{ap, subst}
use Rattle.std.specs.Cmp.{IsEquivalence, both_ways}

module _ {A : Type 0} (alike : A → A → Bool) (alike_is : (x y : A) → alike x y ≡ true → x ≡ y) (alike_self : (x : A) → alike x x ≡ true) where
  pub alike_sym : (x y : A) → alike x y ≡ alike y x
  alike_sym x y = both_ways (alike x y) (alike y x)
      (λ is. subst (λ z. alike z x ≡ true) (alike_is x y is) (alike_self x)) (λ is. subst (λ z. alike z y ≡ true) (alike_is y x is) (alike_self y))

  -- what is hashed of equal ones is the same
  pub fed_alike : (fed : A → List (List ℕ)) (x y : A) → IsTrue (alike x y) → fed x ≡ fed y
  fed_alike fed x y same = ap fed (alike_is x y same)

  pub alike_equivalence : IsEquivalence alike
  alike_equivalence = record { refl = alike_self; symm = alike_sym; congr = λ x y z is. ap (λ v. alike v z) (alike_is x y is) }
