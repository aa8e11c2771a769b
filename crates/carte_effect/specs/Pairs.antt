-- Two lists that grow together.
use Rattle.std.specs.Prelude.{ℕ, List, [], ◌∷◌, ◌++◌, ◌≡◌, Result, Ok, Err}
use Rattle.carte_value.specs.declared.value.Value.{Value}

-- both grew by one, or neither changed
abbrev pub Both : {A E : Type 0} → Result A E → List (List ℕ) → List (List ℕ) → List Value → List Value → List ℕ → Value → Type 0
Both (Ok a) ks ks' vs vs' k v = (ks' ≡ ks ++ k ∷ []) × (vs' ≡ vs ++ v ∷ [])
Both (Err e) ks ks' vs vs' k v = (ks' ≡ ks) × (vs' ≡ vs)
