-- What the parts of reading give together.
use Rattle.std.proofs.Common.{ℕ, List, [], length, ◌≡◌, ◌≤◌, Option, Some, None, Result, Ok, Err, IfOk, refl}
use Rattle.carte_name.specs.declared.kind.Kind.{Kind}
use Rattle.carte_tree.specs.Tree.{Tree}
use Rattle.carte_formula.specs.Machine.{wants}
use Rattle.carte_formula.specs.Reading.{FormulaFault, BadToken, BadSyntax, TooDeep, TooLong, TooWide, NoMemory, ReadAs, tokens_read}
use Rattle.carte_formula.specs.Tokens.{Placed}
use Rattle.carte_lexer.specs.Lexer.{idle, lexed}
use Rattle.carte_tree.specs.Code.{tree_of}
use Rattle.carte_lexer.specs.Takes.{ReadsTo}
use Rattle.carte_lexer.specs.Widths.{wide_from}
use Rattle.carte_formula.specs.Whole.{with_width, with_tokens, as_tree, Reads}
use Rattle.carte_tree.specs.Formula.{IsExpr, HasNames}
use Rattle.carte_tree.specs.declared.expr.Expr.{Expr}
use Rattle.carte_formula.proofs.Faults.{reads}
use Rattle.carte_lexer.proofs.Lexed.{lexed_kind}
use Rattle.carte_formula.proofs.Formulas.{spelt_expr, spelt_names}

-- what tokens are read as, with the width of their ranges
pub with_both : (q : Kind) (bytes : List ℕ) (ps : List Placed) (r : Result Tree FormulaFault) (w : Option ℕ) → length bytes ≤ 4096 → lexed q idle 0 bytes ≡ Ok ps → ReadAs ps (length bytes) r → wide_from 0 ps ≡ w → Reads q bytes (with_width r w)
with_both q bytes ps (Ok e) None low is r w = (low, ps, is, r, w)
with_both q bytes ps (Ok e) (Some place) low is r w = (low, ps, is, e, r, w)
with_both q bytes ps (Err (BadSyntax place)) o low is r w = (low, ps, is, r)
with_both q bytes ps (Err (TooDeep place)) o low is r w = (low, ps, is, r)
with_both q bytes ps (Err NoMemory) o low is r w = low
with_both q bytes ps (Err (BadToken place)) o low is r w = absurd r
with_both q bytes ps (Err (TooLong place)) o low is r w = absurd r
with_both q bytes ps (Err (TooWide place)) o low is r w = absurd r

told : (q : Kind) (bytes : List ℕ) (r : Result Expr FormulaFault) (s : Result Tree FormulaFault) → length bytes ≤ 4096 → ReadsTo r s → Reads q bytes s → Reads q bytes (as_tree r)
told q bytes (Ok e) s low is h = rw is at h
told q bytes (Err NoMemory) s low is h = low
told q bytes (Err (BadSyntax place)) s low is h = rw is at h
told q bytes (Err (TooDeep place)) s low is h = rw is at h
told q bytes (Err (BadToken place)) s low is h = rw is at h
told q bytes (Err (TooLong place)) s low is h = rw is at h
told q bytes (Err (TooWide place)) s low is h = rw is at h

pub of_tokens : (q : Kind) (bytes : List ℕ) (x : Result (List Placed) ℕ) → length bytes ≤ 4096 → lexed q idle 0 bytes ≡ x → Reads q bytes (with_tokens x (length bytes))
of_tokens q bytes (Ok ps) low is = with_both q bytes ps (tokens_read (wants []) ps (length bytes)) (wide_from 0 ps) low is (reads ps (length bytes)) refl
of_tokens q bytes (Err place) low is = (low, is)

pub text_told : (q : Kind) (bytes : List ℕ) (r : Result Expr FormulaFault) → length bytes ≤ 4096 → ReadsTo r (with_tokens (lexed q idle 0 bytes) (length bytes)) → Reads q bytes (as_tree r)
text_told q bytes r low h = told q bytes r (with_tokens (lexed q idle 0 bytes) (length bytes)) low h (of_tokens q bytes (lexed q idle 0 bytes) low refl)

pub read_expr : (q : Kind) (bytes : List ℕ) (e : Tree) → Reads q bytes (Ok e) → IsExpr e
read_expr q bytes e (low, ps, is, (spells, shallow), w) = spelt_expr q spells (lexed_kind q bytes ps is)

pub read_names : (q : Kind) (bytes : List ℕ) (e : Tree) → Reads q bytes (Ok e) → HasNames q e
read_names q bytes e (low, ps, is, (spells, shallow), w) = spelt_names q spells (lexed_kind q bytes ps is)

pub ok_expr : (q : Kind) (bytes : List ℕ) (r : Result Expr FormulaFault) → Reads q bytes (as_tree r) → IfOk r (λ e. IsExpr (tree_of e))
ok_expr q bytes (Ok e) h = read_expr q bytes (tree_of e) h
ok_expr q bytes (Err f) h = tt

pub ok_names : (q : Kind) (bytes : List ℕ) (r : Result Expr FormulaFault) → Reads q bytes (as_tree r) → IfOk r (λ e. HasNames q (tree_of e))
ok_names q bytes (Ok e) h = read_names q bytes (tree_of e) h
ok_names q bytes (Err f) h = tt
