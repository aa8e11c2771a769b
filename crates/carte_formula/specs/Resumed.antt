-- What a text is read as, where some of its tokens are read.
use Rattle.std.specs.Prelude.{ℕ, List, length, drop, ◌≡◌, ◌≤◌, ◌<◌, Result, Ok, Err}
use Rattle.carte_name.specs.declared.kind.Kind.{Kind}
use Rattle.carte_tree.specs.Tree.{Tree}
use Rattle.carte_formula.specs.Machine.{State}
use Rattle.carte_formula.specs.Reading.{FormulaFault, BadToken, tokens_read}
use Rattle.carte_formula.specs.Tokens.{Placed}
use Rattle.carte_formula.specs.Whole.{with_width}
use Rattle.carte_lexer.specs.Ranges.{wide_after}
use Rattle.carte_lexer.specs.Lexer.{idle, lexed}
use Rattle.carte_formula.specs.Parser.{reached, holding}
use Rattle.carte_lexer.specs.Takes.{ReadsTo}
use Rattle.carte_tree.specs.declared.expr.Expr.{Expr}
use Rattle.carte_lexer.specs.declared.width.Ranges.{Ranges}
use Rattle.carte_formula.specs.declared.parser.Progress.{Progress}

-- behind a state, where the rest has these tokens or a bad one
abbrev pub resumed : State → Ranges → ℕ → Result (List Placed) ℕ → Result Tree FormulaFault
resumed s w size (Ok ps) = with_width (tokens_read s ps size) (wide_after w ps)
resumed s w size (Err place) = Err (BadToken place)

-- what the bytes from a place on are read as
abbrev pub remaining : Kind → List ℕ → ℕ → Progress → Result Tree FormulaFault
remaining q bytes at p = resumed (reached p.parser) p.ranges (length bytes) (lexed q idle at (drop at bytes))

-- the bytes up to an end are taken, and what is read stays the same; or its fault is told
abbrev pub Advances : Kind → List ℕ → ℕ → Progress → Result ℕ FormulaFault → Progress → Type 0
Advances q bytes at p (Ok end) n = (at < end) × (end ≤ length bytes) × (remaining q bytes at p ≡ remaining q bytes end n)
Advances q bytes at p (Err f) n = ReadsTo (Err f) (remaining q bytes at p)

-- the same with an operand that stands before a place and isn't put away yet
abbrev pub carrying : Progress → Expr → Progress
carrying p e = record { parser = holding p.parser e; ranges = p.ranges }

abbrev pub Follows : Kind → List ℕ → ℕ → Expr → Progress → Result ℕ FormulaFault → Progress → Type 0
Follows q bytes at e p (Ok end) n = (at ≤ end) × (end ≤ length bytes) × (remaining q bytes at (carrying p e) ≡ remaining q bytes end n)
Follows q bytes at e p (Err f) n = ReadsTo (Err f) (remaining q bytes at (carrying p e))
