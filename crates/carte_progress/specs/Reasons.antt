-- The first target that has a reason on a bench.
use Rattle.std.specs.Prelude.{ℕ, ◌⊎◌, List, [], ◌∷◌, Option, Some, None}
use Rattle.carte_book.specs.declared.reason.Reason.{Reason}
use Rattle.carte_bench.specs.Waits.{Onward, WaitsAs}

abbrev pub HaveNone : (List ℕ → Onward) → List (List ℕ) → Type 0
HaveNone f [] = Unit {0}
HaveNone f (t ∷ ts) = WaitsAs f t None × HaveNone f ts

-- no target has a path of waits round or astray; or this is the path of the first that has one
abbrev pub FirstReason : (List ℕ → Onward) → List (List ℕ) → Option Reason → Type 0
FirstReason f ts None = HaveNone f ts
FirstReason f [] (Some r) = ⊥
FirstReason f (t ∷ ts) (Some r) = WaitsAs f t (Some r) ⊎ (WaitsAs f t None × FirstReason f ts (Some r))
