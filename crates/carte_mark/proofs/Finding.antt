-- Names that have numbers.
use Rattle.std.proofs.Common.{◌≡◌, ℕ, suc, ◌+◌, Bool, true, false, cond, not, List, [], ◌∷◌, length, nat_lt, Some, None, is_some, refl, ap, sym, ◌∙◌, inl, inr, arith}
use Rattle.carte_name.specs.Names.{name_eq}
use Rattle.carte_value.specs.Numbers.{number_of}
use Rattle.carte_value.specs.Truths.{Among}
use Rattle.carte_table.proofs.Names.{name_eq_self}

below : (x n : ℕ) → is_some (cond (nat_lt x n) (Some x) None) ≡ true → nat_lt x n ≡ true
below x n is = on (nat_lt x n) is
  where
    on : (t : Bool) → is_some (cond t (Some x) None) ≡ true → t ≡ true
    on true is = refl
    on false is = cc

further : (x n : ℕ) → nat_lt x n ≡ true → nat_lt (1 + x) (suc n) ≡ true
further x n is = grind arith

one : (t : Bool) (x n : ℕ) → (t ≡ false → is_some (cond (nat_lt x n) (Some x) None) ≡ true) → is_some (cond (nat_lt (cond (not t) (1 + x) 0) (suc n)) (Some (cond (not t) (1 + x) 0)) None) ≡ true
one true x n rest = ap (λ t. is_some {T = ℕ} (cond t (Some 0) None)) (first n)
  where
    first : (n : ℕ) → nat_lt 0 (suc n) ≡ true
    first n = grind arith
one false x n rest = ap (λ t. is_some {T = ℕ} (cond t (Some (1 + x)) None)) (further x n (below x n (rest refl)))

-- those that are there
pub among_number : (ks : List (List ℕ)) (k : List ℕ) → Among ks k → is_some (number_of ks k) ≡ true
among_number [] k nowhere = absurd nowhere
among_number (j ∷ js) k there = one (name_eq k j) _ (length js) (λ other. among_number js k (behind other there))
  where
    behind : name_eq k j ≡ false → Among (j ∷ js) k → Among js k
    behind other (inl same) = absurd (let e : false ≡ true = sym other ∙ (ap (name_eq k) (sym same) ∙ name_eq_self k) in cc)
    behind other (inr rest) = rest
