-- Lists with one item changed, or without the last.
use Rattle.std.specs.Prelude.{◌-◌, ℕ, Bool, not, List, [], ◌∷◌, find, is_some, length, take, if◌then◌else◌}
use Rattle.carte_name.specs.Names.{name_eq}

-- the first item that passes is changed
abbrev pub change_first : {A : Type 0} → (A → Bool) → (A → A) → List A → List A
change_first p f [] = []
change_first p f (x ∷ xs) = if p x then f x ∷ xs else x ∷ change_first p f xs

-- all items but the last
abbrev pub front : {A : Type 0} → List A → List A
front xs = take (length xs - 1) xs

-- the first item of each of these keys is changed, one after the other
abbrev pub all_changed : {K A : Type 0} → (K → A → Bool) → (A → A) → List A → List K → List A
all_changed is_of f xs [] = xs
all_changed is_of f xs (k ∷ ks) = all_changed is_of f (change_first (is_of k) f xs) ks

-- the item has none of these keys
abbrev pub is_of_none : {A : Type 0} → (A → List ℕ) → List (List ℕ) → A → Bool
is_of_none key ks x = not (is_some (find (name_eq (key x)) ks))
