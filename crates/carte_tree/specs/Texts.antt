-- Texts and their lines.
use Rattle.std.specs.Prelude.{ℕ, ℤ, pos, suc, List, [], ◌∷◌, ◌==◌, Option, None, slice_get}
use Rattle.std.specs.List.{slice_split, flat_map}
use Rattle.carte_value.specs.declared.value.Value.{Value}
use Rattle.carte_value.specs.declared.value.Value.TheVariants.{Text}
use Rattle.carte_tree.specs.Coercions.{as_number, text_of, text_value, or_wrong, strict}

abbrev pub joined : List Value → Value
joined vs = strict (λ us. text_value (flat_map text_of us)) vs

abbrev pub without_last_empty : List (List ℕ) → List (List ℕ)
without_last_empty [] = []
without_last_empty ([] ∷ []) = []
without_last_empty (l ∷ ls) = l ∷ without_last_empty ls

-- the pieces between line feeds; a line feed at the end ends the last line
abbrev pub lines : List ℕ → List (List ℕ)
lines t = without_last_empty (slice_split (λ b. b == 10) t)

-- line n of the lines, counted from 1
abbrev pub line_at : List (List ℕ) → ℤ → Option (List ℕ)
line_at ls (pos (suc n)) = slice_get ls n
line_at ls n = None

abbrev pub line_of : Value → Value → Value
line_of x n = or_wrong (as_number n) (λ m. or_wrong (line_at (lines (text_of x)) m) (λ l. Text l))
