-- How calls are written.
use Rattle.std.specs.Prelude.{ℕ, zero, suc, Bool, true, false, if◌then◌else◌}
use Rattle.carte_tree.specs.declared.expr.Level.{Level}
use Rattle.carte_tree.specs.Tree.{Steps, Args, no_arg, arg, Arg, one, cells}
use Rattle.carte_tree.specs.Formula.{AreSteps}
use Rattle.carte_tree.specs.declared.expr.Func.{Func}
use Rattle.carte_tree.specs.declared.expr.Func.TheVariants as f
use Rattle.carte_task.specs.declared.compile.Form.{Form}
use Rattle.carte_task.specs.declared.compile.Form.TheVariants.{Choice, Indirect, Gather, Plain}

abbrev pub is_one : Arg → Bool
is_one (one e) = true
is_one (cells a) = false

-- that many formulas, and no range
abbrev pub are_ones : ℕ → Args → Bool
are_ones zero no_arg = true
are_ones (suc n) (arg (one e) xs) = are_ones n xs
are_ones n xs = false

abbrev pub form_of : Func → Args → Form
form_of f.If xs = if are_ones 3 xs then Choice else Plain
form_of f.Indirect xs = if are_ones 1 xs then Indirect else Plain
form_of f.Gather xs = if are_ones 1 xs then Gather else Plain
form_of func xs = Plain

-- the operators of steps are all of one level
abbrev pub HaveLevel : Steps → Type 0
HaveLevel ss = (l : Level) × AreSteps l ss
