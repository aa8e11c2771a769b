-- The functions of formulas: their names, how many arguments they take, and what they make of these arguments' values.
use Rattle.std.specs.Prelude.{ℕ, pos, Bool, true, false, not, List, [], ◌∷◌, length, codes, bytes_eq, Option, Some, None, if◌then◌else◌}
use Rattle.std.specs.List.{list_all, list_any}
use Rattle.std.specs.Str.{str_to_ascii_uppercase}
use Rattle.carte_value.specs.declared.value.Value.{Value}
use Rattle.carte_value.specs.declared.value.Value.TheVariants.{Empty, Number, Text}
use Rattle.carte_tree.specs.declared.expr.Func.{Func}
use Rattle.carte_tree.specs.declared.expr.Func.TheVariants as f
use Rattle.carte_tree.specs.Coercions.{as_bool, text_of, number_value, bool_value, strict, or_wrong, each_as, one, two}
use Rattle.carte_tree.specs.Numbers.{total, numbers_in, least, greatest}
use Rattle.carte_tree.specs.Texts.{joined, lines, line_of}
use Rattle.carte_tree.specs.Applied.{pick}

abbrev pub func_name : Func → List ℕ
func_name f.Sum = codes "SUM"
func_name f.Min = codes "MIN"
func_name f.Max = codes "MAX"
func_name f.Count = codes "COUNT"
func_name f.Concat = codes "CONCAT"
func_name f.And = codes "AND"
func_name f.Or = codes "OR"
func_name f.Len = codes "LEN"
func_name f.Upper = codes "UPPER"
func_name f.Lines = codes "LINES"
func_name f.Line = codes "LINE"
func_name f.Not = codes "NOT"
func_name f.If = codes "IF"
func_name f.Pick = codes "PICK"
func_name f.Indirect = codes "INDIRECT"
func_name f.Gather = codes "GATHER"

-- each function there is
abbrev pub funcs : List Func
funcs = f.Sum ∷ f.Min ∷ f.Max ∷ f.Count ∷ f.Concat ∷ f.And ∷ f.Or ∷ f.Len ∷ f.Upper ∷ f.Lines ∷ f.Line ∷ f.Not ∷ f.If ∷ f.Pick ∷ f.Indirect ∷ f.Gather ∷ []

abbrev pub func_among : List Func → List ℕ → Option Func
func_among [] bs = None
func_among (g ∷ gs) bs = if bytes_eq bs (func_name g) then Some g else func_among gs bs

-- the function of this name
abbrev pub func_of : List ℕ → Option Func
func_of bs = func_among funcs bs

-- how many arguments a function takes
pub data Arity : Type 0 where
  many : Arity
  between : ℕ → ℕ → Arity

abbrev pub arity : Func → Arity
arity f.Sum = many
arity f.Min = many
arity f.Max = many
arity f.Count = many
arity f.Concat = many
arity f.And = many
arity f.Or = many
arity f.Len = between 1 1
arity f.Upper = between 1 1
arity f.Lines = between 1 1
arity f.Line = between 2 2
arity f.Not = between 1 1
arity f.If = between 2 3
arity f.Pick = between 3 3
arity f.Indirect = between 1 1
arity f.Gather = between 1 1

-- a bad value among the arguments is the result
abbrev pub is_strict : Func → Bool
is_strict f.Count = false
is_strict f.Pick = false
is_strict f.If = false
is_strict f.Indirect = false
is_strict f.Gather = false
is_strict func = true

-- IF, INDIRECT and GATHER do more than look at values, as `asks` says
abbrev pub called : Func → List Value → Value
called f.Sum vs = strict (λ us. number_value (total (numbers_in us))) vs
called f.Min vs = strict (λ us. Number (least (numbers_in us))) vs
called f.Max vs = strict (λ us. Number (greatest (numbers_in us))) vs
called f.Count vs = Number (pos (length (numbers_in vs)))
called f.Concat vs = joined vs
called f.And vs = strict (λ us. or_wrong (each_as as_bool us) (λ bs. bool_value (list_all (λ b. b) bs))) vs
called f.Or vs = strict (λ us. or_wrong (each_as as_bool us) (λ bs. bool_value (list_any (λ b. b) bs))) vs
called f.Not vs = strict (one (λ v. or_wrong (as_bool v) (λ b. bool_value (not b)))) vs
called f.Len vs = strict (one (λ v. Number (pos (length (text_of v))))) vs
called f.Upper vs = strict (one (λ v. Text (str_to_ascii_uppercase (text_of v)))) vs
called f.Lines vs = strict (one (λ v. Number (pos (length (lines (text_of v)))))) vs
called f.Line vs = strict (two line_of) vs
called f.Pick vs = pick vs
called f.If vs = Empty
called f.Indirect vs = Empty
called f.Gather vs = Empty
