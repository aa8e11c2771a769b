-- What meeting tokens in bytes leaves to be done.
use Rattle.std.specs.Prelude.{ℕ, List, ◌≡◌, ◌≤◌, ◌<◌, length, drop, Option, Some, None, Result, Ok, Err}
use Rattle.carte_name.specs.declared.kind.Kind.{Kind}
use Rattle.carte_lexer.specs.Tokens.{Token, Placed}
use Rattle.carte_tree.specs.Tree.{Tree}
use Rattle.carte_tree.specs.Code.{tree_of}
use Rattle.carte_tree.specs.declared.expr.Expr.{Expr}
use Rattle.carte_tree.specs.declared.fault.FormulaFault.{FormulaFault}
use Rattle.carte_tree.specs.declared.fault.FormulaFault.TheVariants.{BadToken, NoMemory}
use Rattle.carte_lexer.specs.Lexer.{idle, before, lexed}

-- a token at a place, if any, and then those of the rest
abbrev pub met : Option Token → ℕ → Result (List Placed) ℕ → Result (List Placed) ℕ
met None place later = later
met (Some t) place later = before (record { place = place; token = t }) later

-- what stands at a place: a blank or a token, and up to where
abbrev pub MeetsTo : Kind → List ℕ → ℕ → Result (Option Token × ℕ) FormulaFault → Type 0
MeetsTo q bytes at (Ok n) = (at < n.1) × (n.1 ≤ length bytes) × (lexed q idle at (drop at bytes) ≡ met n.0 at (lexed q idle n.1 (drop n.1 bytes)))
MeetsTo q bytes at (Err (BadToken place)) = lexed q idle at (drop at bytes) ≡ Err place
MeetsTo q bytes at (Err NoMemory) = Unit {0}
MeetsTo q bytes at (Err _) = ⊥

-- the same where a run begins
abbrev pub RunMeetsTo : Kind → List ℕ → ℕ → Result (Token × ℕ) FormulaFault → Type 0
RunMeetsTo q bytes at (Ok n) = MeetsTo q bytes at (Ok (Some n.0, n.1))
RunMeetsTo q bytes at (Err f) = MeetsTo q bytes at (Err f)

-- a fault, unless the rest has a bad token
abbrev pub fault_of : FormulaFault → Result (List Placed) ℕ → FormulaFault
fault_of f (Ok ps) = f
fault_of f (Err place) = BadToken place

-- a call answered what it should, unless memory ran out
abbrev pub ReadsTo : Result Expr FormulaFault → Result Tree FormulaFault → Type 0
ReadsTo (Ok e) r = r ≡ Ok (tree_of e)
ReadsTo (Err NoMemory) r = Unit {0}
ReadsTo (Err f) r = r ≡ Err f
