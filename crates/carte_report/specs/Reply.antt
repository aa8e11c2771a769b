-- What a build prints.
use Rattle.std.specs.Prelude.{ℕ, Bool, List, [], ◌∷◌, ◌++◌, codes, length, if◌then◌else◌}
use Rattle.std.specs.Fmt.{decimal}
use Rattle.carte_value.specs.declared.value.Value.{Value}
use Rattle.carte_value.specs.Printed.{printed}

abbrev pub target_line : List ℕ → Value → List ℕ
target_line k v = k ++ (codes " = " ++ (printed v ++ 10 ∷ []))

-- a line for each target with its value, in their order
abbrev pub target_lines : List (List ℕ) → List Value → List ℕ
target_lines [] vs = []
target_lines (k ∷ ks) [] = []
target_lines (k ∷ ks) (v ∷ vs) = target_line k v ++ target_lines ks vs

-- a line for each rule that ran
abbrev pub ran_lines : List (List ℕ) → List ℕ
ran_lines [] = []
ran_lines (k ∷ ks) = codes "ran " ++ (k ++ 10 ∷ ran_lines ks)

abbrev pub listed_lines : Bool → List (List ℕ) → List ℕ
listed_lines list ran = if list then ran_lines ran else []

-- how many tasks ran, how many were given up, and how many results were reused
abbrev pub counts_line : ℕ → ℕ → ℕ → List ℕ
counts_line ran given_up reused = codes "ran " ++ (decimal ran ++ (codes ", given up " ++ (decimal given_up ++ (codes ", reused " ++ (decimal reused ++ 10 ∷ [])))))

-- the targets with their values, the rules that ran where they are to be listed, and the counts
abbrev pub reply : List (List ℕ) → List Value → Bool → List (List ℕ) → ℕ → ℕ → List ℕ
reply targets values list ran given_up reused = target_lines targets values ++ (listed_lines list ran ++ counts_line (length ran) given_up reused)

-- before it, where the book was generated: how many keys that has, and how many of them are inputs
abbrev pub keys_line : ℕ → ℕ → List ℕ
keys_line keys inputs = codes "keys " ++ (decimal keys ++ (codes ", inputs " ++ (decimal inputs ++ 10 ∷ [])))
