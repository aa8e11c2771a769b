-- Formulas as lists of instructions, and what these ask for.
use Rattle.std.specs.Prelude.{ℕ, zero, suc, ◌-◌, Bool, true, false, List, [], ◌∷◌, ◌++◌, Result, Ok, Err, length, take, drop}
use Rattle.carte_name.specs.declared.kind.Kind.{Kind}
use Rattle.carte_value.specs.declared.value.Value.{Value}
use Rattle.carte_value.specs.declared.value.Value.TheVariants.{Empty}
use Rattle.carte_value.specs.Asks.{Asks, done, ask}
use Rattle.carte_tree.specs.Applied.{condition, negated, applied}
use Rattle.carte_tree.specs.Functions.{called}
use Rattle.carte_value.specs.Areas.{cells_of}
use Rattle.carte_tree.specs.Found.{name_in, names_in}
use Rattle.carte_tree.specs.Texts.{joined}
use Rattle.carte_task.specs.declared.code.Instr.{Instr}
use Rattle.carte_task.specs.declared.code.Instr.TheVariants as i

-- the stack has its newest value last
abbrev pub newest : ℕ → List Value → List Value
newest n vs = drop (length vs - n) vs

abbrev pub below : ℕ → List Value → List Value
below n vs = take (length vs - n) vs

-- v in the place of the newest n values
abbrev pub put : ℕ → List Value → Value → List Value
put n vs v = below n vs ++ v ∷ []

abbrev pub first_of : List Value → Value
first_of [] = Empty
first_of (v ∷ vs) = v

abbrev pub top : List Value → Value
top vs = first_of (newest 1 vs)

-- looks names up in order, each onto the stack
abbrev pub pushed : {A : Type 0} → List (List ℕ) → List Value → (List Value → Asks A) → Asks A
pushed [] vs go = go vs
pushed (k ∷ ks) vs go = ask k (λ v. pushed ks (vs ++ v ∷ []) go)

abbrev pub tested : Result Bool Value → ℕ → ℕ → List Value → (ℕ → List Value → Asks Value) → Asks Value
tested (Ok true) other end vs go = go 0 vs
tested (Ok false) other end vs go = go other vs
tested (Err v) other end vs go = go end (vs ++ v ∷ [])

abbrev pub indirected : Result (List ℕ) Value → List Value → (ℕ → List Value → Asks Value) → Asks Value
indirected (Ok k) vs go = ask k (λ v. go 0 (vs ++ v ∷ []))
indirected (Err v) vs go = go 0 (vs ++ v ∷ [])

abbrev pub gathering : Result (List (List ℕ)) Value → List Value → (ℕ → List Value → Asks Value) → Asks Value
gathering (Ok ks) vs go = pushed ks vs (λ ws. go 0 (put (length ks) ws (joined (newest (length ks) ws))))
gathering (Err v) vs go = go 0 (vs ++ v ∷ [])

-- one instruction over a stack; `go n` goes on behind the next n instructions
abbrev pub done_by : Kind → Instr → List Value → (ℕ → List Value → Asks Value) → Asks Value
done_by kind (i.Push v) vs go = go 0 (vs ++ v ∷ [])
done_by kind (i.Look k) vs go = ask k (λ v. go 0 (vs ++ v ∷ []))
done_by kind (i.Cells a) vs go = pushed (cells_of a) vs (go 0)
done_by kind i.Negate vs go = go 0 (put 1 vs (negated (newest 1 vs)))
done_by kind (i.Apply op) vs go = go 0 (put 2 vs (applied op (newest 2 vs)))
done_by kind (i.Call func n) vs go = go 0 (put n vs (called func (newest n vs)))
done_by kind (i.Test other end) vs go = tested (condition (top vs)) other end (below 1 vs) go
done_by kind (i.Jump n) vs go = go n vs
done_by kind i.Indirect vs go = indirected (name_in kind (top vs)) (below 1 vs) go
done_by kind i.Gather vs go = gathering (names_in kind (top vs)) (below 1 vs) go

-- instructions, behind the first n
abbrev pub exec : Kind → ℕ → List Instr → List Value → Asks Value
exec kind n [] vs = done (top vs)
exec kind (suc n) (c ∷ cs) vs = exec kind n cs vs
exec kind zero (c ∷ cs) vs = done_by kind c vs (λ n ws. exec kind n cs ws)
