-- How many cells the ranges among tokens have.
use Rattle.std.specs.Prelude.{ℕ, List, [], ◌∷◌, ◌+◌, Option, Some, None, nat_lt, if◌then◌else◌}
use Rattle.carte_value.specs.Areas.{area_of, size_of}
use Rattle.carte_lexer.specs.Tokens.{Token, cell, colon, Placed, tokens_of}

-- how many cells a range has that begins with this token
abbrev pub range_size : Token → List Token → ℕ
range_size (cell a) (colon ∷ cell b ∷ ts) = size_of (area_of a b)
range_size _ _ = 0

-- how many cells all ranges have
abbrev pub width : List Token → ℕ
width [] = 0
width (t ∷ ts) = range_size t ts + width ts

abbrev pub size_at : List Placed → ℕ
size_at [] = 0
size_at (p ∷ ps) = range_size p.token (tokens_of ps)

-- the place of the first cell of the range with which there are more than 65,536 cells
abbrev pub wide_from : ℕ → List Placed → Option ℕ
wide_from sum [] = None
wide_from sum (p ∷ ps) = if nat_lt 65536 (sum + size_at (p ∷ ps)) then Some p.place else wide_from (sum + size_at (p ∷ ps)) ps
