-- What operators make of the values of their operands, and PICK of its arguments'.
use Rattle.std.specs.Prelude.{Bool, true, false, List, [], ◌∷◌, Result, Ok, Err, ◌+ℤ◌, ◌-ℤ◌, ◌*ℤ◌, neg_ℤ}
use Rattle.carte_value.specs.declared.value.Bad.TheVariants as bad
use Rattle.carte_value.specs.declared.value.Value.{Value}
use Rattle.carte_value.specs.declared.value.Value.TheVariants.{Empty, Number, Text, Bad}
use Rattle.carte_tree.specs.declared.expr.Op.{Op}
use Rattle.carte_tree.specs.declared.expr.Op.TheVariants as op
use Rattle.carte_tree.specs.Coercions.{as_number, is_nonzero, number_value, strict, or_wrong, one, two, numbers}
use Rattle.carte_tree.specs.Numbers.{divided}
use Rattle.carte_tree.specs.Order.{compared}
use Rattle.carte_tree.specs.Texts.{joined}

-- whether a condition holds, or what takes the place of both branches
abbrev pub condition : Value → Result Bool Value
condition Empty = Ok false
condition (Number n) = Ok (is_nonzero n)
condition (Text t) = Err (Bad bad.Value)
condition (Bad b) = Err (Bad b)

abbrev pub picked : Result Bool Value → Value → Value → Value
picked (Ok true) a b = a
picked (Ok false) a b = b
picked (Err v) a b = v

-- one of two values, whatever the other is
abbrev pub pick : List Value → Value
pick (c ∷ a ∷ b ∷ []) = picked (condition c) a b
pick vs = Empty

abbrev pub negated : List Value → Value
negated vs = strict (one (λ v. or_wrong (as_number v) (λ n. number_value (neg_ℤ n)))) vs

abbrev pub applied : Op → List Value → Value
applied op.Add vs = strict (two (numbers (λ m n. number_value (m +ℤ n)))) vs
applied op.Sub vs = strict (two (numbers (λ m n. number_value (m -ℤ n)))) vs
applied op.Mul vs = strict (two (numbers (λ m n. number_value (m *ℤ n)))) vs
applied op.Div vs = strict (two (numbers divided)) vs
applied op.Join vs = joined vs
applied op.Eq vs = compared op.Eq vs
applied op.Ne vs = compared op.Ne vs
applied op.Lt vs = compared op.Lt vs
applied op.Le vs = compared op.Le vs
applied op.Gt vs = compared op.Gt vs
applied op.Ge vs = compared op.Ge vs
