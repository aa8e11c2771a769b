-- What holds of each item of a list.
use Rattle.std.specs.Prelude.{List, [], ◌∷◌}

abbrev pub EachFits : {A : Type 0} → (A → Type 0) → List A → Type 0
EachFits P [] = Unit {0}
EachFits P (x ∷ xs) = P x × EachFits P xs
