-- What a task is a task of.
use Rattle.std.specs.Prelude.{ℕ, Bool, List, [], ◌≡◌}
use Rattle.carte_name.specs.declared.kind.Kind.{Kind}
use Rattle.carte_value.specs.declared.value.Value.{Value}
use Rattle.carte_value.specs.Asks.{Asks}
use Rattle.carte_tree.specs.Tree.{Tree}
use Rattle.carte_tree.specs.Meaning.{asks}
use Rattle.carte_tree.specs.Formula.{mentions, is_static_tree}
use Rattle.carte_task.specs.declared.task.Routine.{Routine}
use Rattle.carte_task.specs.declared.task.Task.{Task}
use Rattle.carte_task.specs.Code.{exec}
use Rattle.carte_task.specs.Coding.{code_of}
use Rattle.carte_task.specs.Mentions.{mentions_in}

abbrev pub routine_asks : Routine → Asks Value
routine_asks r = exec r.kind 0 r.code.items []

abbrev pub key_of : Task → List ℕ
key_of t = t.routine.key

abbrev pub asks_of : Task → Asks Value
asks_of t = routine_asks t.routine

abbrev pub is_fixed : Task → Bool
is_fixed t = t.fixed

-- it has this key and the formula's code
pub record IsRoutineOf (kind : Kind) (k : List ℕ) (e : Tree) (r : Routine) : Type 0 where
  pub key : r.key ≡ k
  pub kind_is : r.kind ≡ kind
  pub code : r.code.items ≡ code_of e

-- it has this key, asks for what the formula asks for, and knows whether the formula is static
pub record IsTaskOf (kind : Kind) (k : List ℕ) (e : Tree) (t : Task) : Type 0 where
  pub key : key_of t ≡ k
  pub computes : asks_of t ≡ asks kind e
  pub mentioned : mentions_in t.routine.code.items ≡ mentions e
  pub fixed : is_fixed t ≡ is_static_tree e
