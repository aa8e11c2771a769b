-- Lists in which nothing stands twice.
use Rattle.std.specs.Prelude.{List, [], ◌∷◌}
pub use Rattle.carte_value.specs.Lists.{Has}

-- no item stands in it twice
abbrev pub EachOnce : {A : Type 0} → List A → Type 0
EachOnce [] = Unit {0}
EachOnce (x ∷ xs) = ¬ (Has xs x) × EachOnce xs
