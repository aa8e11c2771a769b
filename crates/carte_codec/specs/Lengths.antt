-- How many bytes lists take, as far as that was counted.
use Rattle.std.specs.Prelude.{ℕ, ◌≡◌, List, length, Option, IfSome}
use Rattle.std.specs.List.{flat_map}

-- the items, one after the other, are spelled in so many bytes; or the number isn't known
abbrev pub IsLengthOf : {A : Type 0} → (A → List ℕ) → List A → Option ℕ → Type 0
IsLengthOf spelled xs known = IfSome known (λ n. n ≡ length (flat_map spelled xs))
