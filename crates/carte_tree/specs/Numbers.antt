-- Arithmetic, and the functions that look at numbers alone.
use Rattle.std.specs.Prelude.{ℤ, pos, zero, List, [], ◌∷◌, ◌+ℤ◌, int_div}
use Rattle.std.specs.Int.{int_min, int_max}
use Rattle.carte_value.specs.declared.value.Bad.TheVariants as bad
use Rattle.carte_value.specs.declared.value.Value.{Value}
use Rattle.carte_value.specs.declared.value.Value.TheVariants.{Number, Bad}
use Rattle.carte_tree.specs.Coercions.{number_value}

-- truncated towards zero
abbrev pub divided : ℤ → ℤ → Value
divided m (pos zero) = Bad bad.Div0
divided m n = number_value (int_div m n)

abbrev pub total : List ℤ → ℤ
total [] = pos 0
total (n ∷ ns) = n +ℤ total ns

-- the numbers among values; all others are passed over
abbrev pub numbers_in : List Value → List ℤ
numbers_in [] = []
numbers_in (Number n ∷ vs) = n ∷ numbers_in vs
numbers_in (v ∷ vs) = numbers_in vs

-- 0 where there is none
abbrev pub least : List ℤ → ℤ
least [] = pos 0
least (n ∷ []) = n
least (n ∷ ns) = int_min n (least ns)

abbrev pub greatest : List ℤ → ℤ
greatest [] = pos 0
greatest (n ∷ []) = n
greatest (n ∷ ns) = int_max n (greatest ns)
