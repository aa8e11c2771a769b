-- The inputs and the rules beneath a name.
use Rattle.std.specs.Prelude.{ℕ, zero, suc, ◌+◌, List, [], ◌∷◌, ◌++◌, length, Option, Some, None}
use Rattle.carte_value.specs.Asks.{firsts}
use Rattle.carte_book.specs.Book.{Item, input, rule, Book, content, rules_of}
use Rattle.carte_book.specs.Needs.{needs}

-- what a function gives of each name, one after the other
abbrev pub gathered : (List ℕ → List (List ℕ)) → List (List ℕ) → List (List ℕ)
gathered f [] = []
gathered f (k ∷ ks) = f k ++ gathered f ks

-- what is met when needs are walked depth first, so many rounds deep: of a name by what its needs give
abbrev pub walk : (Option Item → List ℕ → List (List ℕ) → List (List ℕ)) → ℕ → Book → List ℕ → List (List ℕ)
walk met zero b k = met (content b k) k []
walk met (suc n) b k = met (content b k) k (gathered (λ j. walk met n b j) (needs b k))

-- an input itself, and of a rule what its needs give
abbrev pub beneath_item : Option Item → List ℕ → List (List ℕ) → List (List ℕ)
beneath_item None k ks = []
beneath_item (Some (input v)) k ks = k ∷ []
beneath_item (Some (rule e)) k ks = ks

-- of an input nothing, and a rule itself before what its needs give
abbrev pub rules_item : Option Item → List ℕ → List (List ℕ) → List (List ℕ)
rules_item None k ks = []
rules_item (Some (input v)) k ks = []
rules_item (Some (rule e)) k ks = k ∷ ks

-- the inputs met
abbrev pub beneath_in : ℕ → Book → List ℕ → List (List ℕ)
beneath_in = walk beneath_item

-- the rules met
abbrev pub rules_beneath_in : ℕ → Book → List ℕ → List (List ℕ)
rules_beneath_in = walk rules_item

-- each once, at its first place; no walk from a rule with a clean value is deeper than there are rules
abbrev pub beneath : Book → List ℕ → List (List ℕ)
beneath b k = firsts (beneath_in (length (rules_of b) + 1) b k)

abbrev pub rules_beneath : Book → List ℕ → List (List ℕ)
rules_beneath b k = firsts (rules_beneath_in (length (rules_of b) + 1) b k)
