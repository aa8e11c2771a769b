-- How many cells the ranges have, token by token from the left.
use Rattle.std.specs.Prelude.{ℕ, List, [], ◌∷◌, ◌++◌, ◌+◌, nat_lt, Option, Some, None, if◌then◌else◌}
use Rattle.carte_lexer.specs.Tokens.{cell, colon, Placed}
use Rattle.carte_lexer.specs.Widths.{wide_from}
use Rattle.carte_lexer.specs.declared.width.Ranges.{Ranges}
use Rattle.carte_lexer.specs.declared.width.Begun.{Begun}
use Rattle.carte_lexer.specs.declared.width.Begun.TheVariants.{Nothing as nothing, Corner as corner, Half as half}

-- the last tokens, where a range may have begun with them
abbrev pub begun_tokens : Begun → List Placed
begun_tokens nothing = []
begun_tokens (corner place k) = record { place = place; token = cell k } ∷ []
begun_tokens (half place k behind) = record { place = place; token = cell k } ∷ record { place = behind; token = colon } ∷ []

abbrev pub first_of : Option ℕ → Option ℕ → Option ℕ
first_of None later = later
first_of (Some place) later = Some place

-- where there are too many cells, if these tokens follow the ranges that are whole
abbrev pub wide_behind : Ranges → List Placed → Option ℕ
wide_behind w ps = first_of w.too_wide (wide_from w.cells ps)

-- and where these follow the last token
abbrev pub wide_after : Ranges → List Placed → Option ℕ
wide_after w ps = wide_behind w (begun_tokens w.begun ++ ps)

-- behind one range more
abbrev pub wide_counted : Ranges → ℕ → ℕ → List Placed → Option ℕ
wide_counted w place size ps = first_of w.too_wide (if nat_lt 65536 (w.cells + size) then Some place else wide_from (w.cells + size) ps)
