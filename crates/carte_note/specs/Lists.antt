-- What a list of finished keys has of a name.
use Rattle.std.specs.Prelude.{ℕ, Bool, List, Option, find}
use Rattle.carte_name.specs.Names.{name_eq}
use Rattle.carte_note.specs.declared.finished.Finished.{Finished}
use Rattle.carte_note.specs.Right.{key_of}

abbrev pub is_of_key : List ℕ → Finished → Bool
is_of_key k f = name_eq k (key_of f)

-- the first finished key of this name
abbrev pub finished_of : List Finished → List ℕ → Option Finished
finished_of fs k = find (is_of_key k) fs
