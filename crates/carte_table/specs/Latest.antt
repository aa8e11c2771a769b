-- Of equal items the last.
use Rattle.std.specs.Prelude.{ℕ, Bool, false, List, [], ◌∷◌, length, Option, Some, None, slice_get, if◌then◌else◌}
use Rattle.std.specs.List.{flat_map, list_any}

-- those behind which no equal one comes, in their order
abbrev pub last_ones : {A : Type 0} → (A → A → Bool) → List A → List A
last_ones alike [] = []
last_ones alike (x ∷ xs) = if list_any (alike x) xs then last_ones alike xs else x ∷ last_ones alike xs

-- in how many bytes these are spelled
abbrev pub latest_length : {A : Type 0} → (A → A → Bool) → (A → List ℕ) → List A → ℕ
latest_length alike spelled xs = length (flat_map spelled (last_ones alike xs))

-- an equal one stands at this place
abbrev pub is_that : {A : Type 0} → (A → A → Bool) → A → Option A → Bool
is_that alike x None = false
is_that alike x (Some y) = alike x y

abbrev pub stands_at : {A : Type 0} → (A → A → Bool) → A → List A → ℕ → Bool
stands_at alike x xs i = is_that alike x (slice_get xs i)
