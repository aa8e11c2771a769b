-- What the words of the command line mean.
use Rattle.std.specs.Prelude.{ℕ, List, [], ◌∷◌, Option, None}
use Rattle.carte_words.specs.Numbers.{number_within}

-- a state, a new one, and how many traces of each key are to stay
abbrev pub count_of : List (List ℕ) → Option ℕ
count_of (state ∷ new ∷ count ∷ []) = number_within 1 1000000 count
count_of words = None
