-- The instructions of a formula, in postfix order.
use Rattle.std.specs.Prelude.{ℕ, ◌+◌, List, [], ◌∷◌, ◌++◌, length}
use Rattle.carte_value.specs.declared.value.Value.TheVariants.{Number, Text}
use Rattle.carte_tree.specs.Tree.{Tree, number, text, ref, neg, chain, call, Steps, no_step, step, Args, no_arg, arg, Arg, one, cells}
use Rattle.carte_tree.specs.declared.expr.Func.TheVariants as f
use Rattle.carte_value.specs.Areas.{cells_of}
use Rattle.carte_task.specs.declared.code.Instr.{Instr}
use Rattle.carte_task.specs.declared.code.Instr.TheVariants as i

-- how many values arguments are
abbrev pub count_arg : Arg → ℕ
count_arg (one e) = 1
count_arg (cells a) = length (cells_of a)

abbrev pub count : Args → ℕ
count no_arg = 0
count (arg x xs) = count_arg x + count xs

-- a condition, a test, one branch, a jump over the other branch, and that
abbrev pub choice : List Instr → List Instr → List Instr → List Instr
choice c a b = c ++ (i.Test (length a + 1) (length a + (1 + length b)) ∷ (a ++ (i.Jump (length b) ∷ b)))

abbrev mutual
  pub code_of : Tree → List Instr
  code_of (number n) = i.Push (Number n) ∷ []
  code_of (text t) = i.Push (Text t) ∷ []
  code_of (ref k) = i.Look k ∷ []
  code_of (neg e) = code_of e ++ i.Negate ∷ []
  code_of (chain level e ss) = code_of e ++ code_of_steps ss
  code_of (call f.If (arg (one c) (arg (one a) (arg (one b) no_arg)))) = choice (code_of c) (code_of a) (code_of b)
  code_of (call f.Indirect (arg (one e) no_arg)) = code_of e ++ i.Indirect ∷ []
  code_of (call f.Gather (arg (one e) no_arg)) = code_of e ++ i.Gather ∷ []
  code_of (call func xs) = code_of_args xs ++ i.Call func (count xs) ∷ []

  pub code_of_steps : Steps → List Instr
  code_of_steps no_step = []
  code_of_steps (step op e ss) = code_of e ++ (i.Apply op ∷ code_of_steps ss)

  pub code_of_args : Args → List Instr
  code_of_args no_arg = []
  code_of_args (arg x xs) = code_of_arg x ++ code_of_args xs

  pub code_of_arg : Arg → List Instr
  code_of_arg (one e) = code_of e
  code_of_arg (cells a) = i.Cells a ∷ []
