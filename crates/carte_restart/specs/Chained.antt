-- How the new chain grows.
use Rattle.std.specs.Prelude.{ℕ, List, [], ◌∷◌, ◌++◌, if◌then◌else◌}
use Rattle.carte_note.specs.declared.finished.Finished.{Finished}
use Rattle.carte_note.specs.Right.{keys_in}
use Rattle.carte_record.specs.Folds.{is_among}

-- the name behind the others, where it wasn't finished
abbrev pub with_other : List Finished → List (List ℕ) → List ℕ → List (List ℕ)
with_other fs chain k = if is_among (keys_in fs) k then chain else chain ++ k ∷ []
