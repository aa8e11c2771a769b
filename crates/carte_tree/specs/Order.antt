-- The order of values: numbers by size, texts by bytes, each number before each text.
use Rattle.std.specs.Prelude.{pos, Bool, true, false, not, List, []}
use Rattle.std.specs.Ordering.{nat_cmp, int_cmp}
use Rattle.std.specs.declared.cmp.Ordering.{Ordering}
use Rattle.std.specs.declared.cmp.Ordering.TheVariants.{Less, Equal, Greater}
use Rattle.std.specs.Cmp.Lexicographic.{slice_cmp}
use Rattle.carte_value.specs.declared.value.Value.{Value}
use Rattle.carte_value.specs.declared.value.Value.TheVariants.{Empty, Number, Text}
use Rattle.carte_tree.specs.declared.expr.Op.{Op}
use Rattle.carte_tree.specs.declared.expr.Op.TheVariants as op
use Rattle.carte_tree.specs.Coercions.{strict, two, bool_value}

-- Empty is 0 beside a number, and the text without bytes beside a text
abbrev pub value_cmp : Value → Value → Ordering
value_cmp (Number m) (Number n) = int_cmp m n
value_cmp (Number m) (Text t) = Less
value_cmp (Number m) Empty = int_cmp m (pos 0)
value_cmp (Text s) (Number n) = Greater
value_cmp (Text s) (Text t) = slice_cmp nat_cmp s t
value_cmp (Text s) Empty = slice_cmp nat_cmp s []
value_cmp Empty (Number n) = int_cmp (pos 0) n
value_cmp Empty (Text t) = slice_cmp nat_cmp [] t
value_cmp v w = Equal

abbrev pub is_less : Ordering → Bool
is_less Less = true
is_less o = false

abbrev pub is_equal : Ordering → Bool
is_equal Equal = true
is_equal o = false

abbrev pub is_greater : Ordering → Bool
is_greater Greater = true
is_greater o = false

-- whether a comparison holds for what is so ordered; the other operators are none
abbrev pub passes : Op → Ordering → Bool
passes op.Eq o = is_equal o
passes op.Ne o = not (is_equal o)
passes op.Lt o = is_less o
passes op.Le o = not (is_greater o)
passes op.Gt o = is_greater o
passes op.Ge o = not (is_less o)
passes op o = false

abbrev pub compared : Op → List Value → Value
compared op vs = strict (two (λ v w. bool_value (passes op (value_cmp v w)))) vs
