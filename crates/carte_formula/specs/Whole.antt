-- What a whole text is read as.
use Rattle.std.specs.Prelude.{ℕ, List, [], length, ◌≡◌, ◌≤◌, ◌<◌, Option, Some, None, Result, Ok, Err, nat_lt, if◌then◌else◌}
use Rattle.carte_name.specs.declared.kind.Kind.{Kind}
use Rattle.carte_tree.specs.Tree.{Tree}
use Rattle.carte_formula.specs.Tokens.{Placed, tokens_of}
use Rattle.carte_tree.specs.Code.{tree_of}
use Rattle.carte_tree.specs.declared.expr.Expr.{Expr}
use Rattle.carte_formula.specs.Grammar.{Spells}
use Rattle.carte_formula.specs.Machine.{wants}
use Rattle.carte_formula.specs.Reading.{FormulaFault, BadToken, BadSyntax, TooDeep, TooLong, TooWide, NoMemory, ReadAs, tokens_read}
use Rattle.carte_lexer.specs.Lexer.{idle, lexed}
use Rattle.carte_lexer.specs.Widths.{wide_from}

-- the text's tokens
abbrev pub Tokens : Kind → List ℕ → List Placed → Type 0
Tokens q bytes ps = lexed q idle 0 bytes ≡ Ok ps

-- the text spells the formula
abbrev pub SpelledBy : Kind → List ℕ → Tree → Type 0
SpelledBy q bytes e = (ps : List Placed) × Tokens q bytes ps × Spells 4 (tokens_of ps) e

-- what a text is read as; memory is wanted only for one that isn't too long
abbrev pub Reads : Kind → List ℕ → Result Tree FormulaFault → Type 0
Reads q bytes (Ok e) = (length bytes ≤ 4096) × (ps : List Placed) × Tokens q bytes ps × ReadAs ps (length bytes) (Ok e) × (wide_from 0 ps ≡ None)
Reads q bytes (Err (TooLong n)) = (4096 < length bytes) × (n ≡ length bytes)
Reads q bytes (Err (BadToken place)) = (length bytes ≤ 4096) × (lexed q idle 0 bytes ≡ Err place)
Reads q bytes (Err (BadSyntax place)) = (length bytes ≤ 4096) × (ps : List Placed) × Tokens q bytes ps × ReadAs ps (length bytes) (Err (BadSyntax place))
Reads q bytes (Err (TooDeep place)) = (length bytes ≤ 4096) × (ps : List Placed) × Tokens q bytes ps × ReadAs ps (length bytes) (Err (TooDeep place))
Reads q bytes (Err (TooWide place)) = (length bytes ≤ 4096) × (ps : List Placed) × Tokens q bytes ps × (e : Tree) × ReadAs ps (length bytes) (Ok e) × (wide_from 0 ps ≡ Some place)
Reads q bytes (Err NoMemory) = length bytes ≤ 4096

abbrev pub as_tree : Result Expr FormulaFault → Result Tree FormulaFault
as_tree (Ok e) = Ok (tree_of e)
as_tree (Err f) = Err f

-- what the tokens are read as, with the width of their ranges
abbrev pub with_width : Result Tree FormulaFault → Option ℕ → Result Tree FormulaFault
with_width (Ok e) None = Ok e
with_width (Ok e) (Some place) = Err (TooWide place)
with_width (Err f) w = Err f

-- what a text is read as, as a function of its bytes
abbrev pub with_tokens : Result (List Placed) ℕ → ℕ → Result Tree FormulaFault
with_tokens (Err place) size = Err (BadToken place)
with_tokens (Ok ps) size = with_width (tokens_read (wants []) ps size) (wide_from 0 ps)

abbrev pub reading : Kind → List ℕ → Result Tree FormulaFault
reading q bytes = if nat_lt 4096 (length bytes) then Err (TooLong (length bytes)) else with_tokens (lexed q idle 0 bytes) (length bytes)

-- not for want of memory
abbrev pub IsTold : Result Tree FormulaFault → Type 0
IsTold (Err NoMemory) = ⊥
IsTold _ = Unit {0}
