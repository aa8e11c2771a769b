-- The names that instructions mention.
use Rattle.std.specs.Prelude.{ℕ, List, [], ◌∷◌, ◌++◌, ◌≡◌}
use Rattle.carte_value.specs.declared.value.Value.{Value}
use Rattle.carte_value.specs.Truths.{Truth}
use Rattle.carte_value.specs.Asks.{Asks, asked}
use Rattle.carte_value.specs.Once.{Answers, once}
use Rattle.carte_tree.specs.InTurn.{KnowsAll}
use Rattle.carte_value.specs.Areas.{cells_of}
use Rattle.carte_task.specs.declared.code.Instr.{Instr}
use Rattle.carte_task.specs.declared.code.Instr.TheVariants as i

-- the names in instructions, in order
abbrev pub mentioned_by : Instr → List (List ℕ)
mentioned_by (i.Look k) = k ∷ []
mentioned_by (i.Cells a) = cells_of a
mentioned_by c = []

abbrev pub mentions_in : List Instr → List (List ℕ)
mentions_in [] = []
mentions_in (c ∷ cs) = mentioned_by c ++ mentions_in cs

-- it asks for nothing where each of the names has its value for an answer
abbrev pub AsksOnly : List (List ℕ) → Asks Value → Type 0
AsksOnly ks m = (t u : Truth) (a : Answers) → KnowsAll a t ks → asked u (once a m) ≡ []
