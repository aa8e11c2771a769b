-- Formulas as trees, without places in memory.
use Rattle.std.specs.Prelude.{ℕ, ℤ, pos, Bool, true, false, List, [], ◌∷◌, ◌++◌, length, nat_le, nat_lt, ◌==◌, ◌&&◌, if◌then◌else◌}
pub use Rattle.carte_value.specs.declared.area.Area.{Area}
use Rattle.carte_name.specs.Places.{cell_at}
pub use Rattle.carte_tree.specs.declared.expr.Level.{Level}
pub use Rattle.carte_tree.specs.declared.expr.Level.TheVariants.{Compare as compare, Concat as concat, Sum as sum, Product as product}
pub use Rattle.carte_tree.specs.declared.expr.Op.{Op}
pub use Rattle.carte_tree.specs.declared.expr.Op.TheVariants.{Eq as eq, Ne as ne, Lt as lt, Le as le, Gt as gt, Ge as ge, Join as join, Add as add, Sub as sub, Mul as mul, Div as div}
pub use Rattle.carte_tree.specs.declared.expr.Func.{Func}
use Rattle.carte_tree.specs.declared.expr.Func.TheVariants as functions
pub use Rattle.carte_tree.specs.Functions.{Arity, many, between, arity}

abbrev pub level_of : Op → Level
level_of eq = compare
level_of ne = compare
level_of lt = compare
level_of le = compare
level_of gt = compare
level_of ge = compare
level_of join = concat
level_of add = sum
level_of sub = sum
level_of mul = product
level_of div = product

-- how tightly the operators of a level bind: the lower the tighter
abbrev pub rank : Level → ℕ
rank product = 0
rank sum = 1
rank concat = 2
rank compare = 3

mutual
  pub data Tree : Type 0 where
    number : ℤ → Tree
    text : List ℕ → Tree
    ref : List ℕ → Tree
    neg : Tree → Tree
    chain : Level → Tree → Steps → Tree
    call : Func → Args → Tree

  -- each operator of a chain with its operand
  pub data Steps : Type 0 where
    no_step : Steps
    step : Op → Tree → Steps → Steps

  pub data Args : Type 0 where
    no_arg : Args
    arg : Arg → Args → Args

  pub data Arg : Type 0 where
    one : Tree → Arg
    cells : Area → Arg

pub record Term : Type 0 where
  pub op : Op
  pub operand : Tree

abbrev pub steps_of : List Term → Steps
steps_of [] = no_step
steps_of (t ∷ ts) = step t.op t.operand (steps_of ts)

abbrev pub args_of : List Arg → Args
args_of [] = no_arg
args_of (a ∷ xs) = arg a (args_of xs)

abbrev pub is_many : Arity → Bool
is_many many = true
is_many (between a b) = false

-- ranges are arguments of the functions that take any number of them
abbrev pub takes_ranges : Func → Bool
takes_ranges f = is_many (arity f)

-- whether so many arguments are enough, and whether another may follow them
abbrev pub enough_in : Arity → ℕ → Bool
enough_in many n = true
enough_in (between a b) n = nat_le a n

abbrev pub room_in : Arity → ℕ → Bool
room_in many n = true
room_in (between a b) n = nat_lt n b

-- the function whose third argument is 0 where it isn't written
abbrev pub is_if : Func → Bool
is_if functions.If = true
is_if _ = false

abbrev pub filled : Func → List Arg → List Arg
filled f xs = if is_if f && (length xs == 2) then xs ++ one (number (pos 0)) ∷ [] else xs

abbrev pub called_tree : Func → List Arg → Tree
called_tree f xs = call f (args_of (filled f xs))

abbrev pub signed : Bool → Tree → Tree
signed true e = neg e
signed false e = e

abbrev pub first_corner : Area → List ℕ
first_corner a = cell_at a.left a.top

abbrev pub last_corner : Area → List ℕ
last_corner a = cell_at a.right a.bottom
