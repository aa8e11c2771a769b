-- What reading gives for tokens and their places.
use Rattle.std.specs.Prelude.{ℕ, Bool, true, false, List, [], ◌∷◌, ◌++◌, length, take, nat_lt, ◌≡◌, ◌≤◌, ◌<◌, ◌+◌, Option, Some, None, Result, Ok, Err, if◌then◌else◌}
use Rattle.carte_tree.specs.Tree.{Tree}
use Rattle.carte_formula.specs.Tokens.{Token, digits, quoted, word, cell, func, op, lpar, rpar, comma, colon, Placed, tokens_of}
use Rattle.carte_formula.specs.Grammar.{Spells, Viable}
use Rattle.carte_formula.specs.Begun.{depth_of}
use Rattle.carte_formula.specs.Machine.{State, wants, had, named, corner, half, ranged, next_state, end_of}
pub use Rattle.carte_tree.specs.declared.fault.FormulaFault.{FormulaFault}
pub use Rattle.carte_tree.specs.declared.fault.FormulaFault.TheVariants.{BadToken, BadSyntax, TooDeep, TooLong, TooWide, NoMemory}

-- what stands round what comes next, newest first: true for a unary sign, false for a bracket. An operand that is whole ends its signs
abbrev pub dropped : List Bool → List Bool
dropped [] = []
dropped (true ∷ r) = dropped r
dropped (false ∷ r) = false ∷ r

abbrev pub closed : List Bool → List Bool
closed [] = []
closed (b ∷ r) = dropped r

pub record Round : Type 0 where
  pub wanted : Bool  -- an operand comes
  pub by : List Bool

abbrev pub signed_by : Bool → List Bool → List Bool
signed_by true r = true ∷ r
signed_by false r = r

abbrev pub round_step : Round → Token → Round
round_step r (digits n) = record { wanted = false; by = dropped r.by }
round_step r (quoted k) = record { wanted = false; by = dropped r.by }
round_step r (word k) = record { wanted = false; by = dropped r.by }
round_step r (cell k) = record { wanted = false; by = dropped r.by }
round_step r (func f) = record { wanted = true; by = r.by }
round_step r (op o) = record { wanted = true; by = signed_by r.wanted r.by }
round_step r lpar = record { wanted = true; by = false ∷ r.by }
round_step r rpar = record { wanted = false; by = closed r.by }
round_step r comma = record { wanted = true; by = r.by }
round_step r colon = record { wanted = true; by = r.by }

abbrev pub rounds : Round → List Token → Round
rounds r [] = r
rounds r (t ∷ ts) = rounds (round_step r t) ts

-- how many groups, calls and unary signs stand round what follows
abbrev pub around : List Token → ℕ
around prefix = length (rounds (record { wanted = true; by = [] }) prefix).by

-- nothing stands deeper than 64
abbrev pub Shallow : List Token → Type 0
Shallow ts = (k : ℕ) → around (take k ts) ≤ 64

-- no formula's tokens begin with those up to and with one, or the text ends too early
abbrev pub SyntaxAt : List Placed → List Placed → ℕ → ℕ → Type 0
SyntaxAt prefix [] size place = (place ≡ size) × ((e : Tree) → Spells 4 (tokens_of prefix) e → ⊥)
SyntaxAt prefix (p ∷ ps) size place = (place ≡ p.place) × (Viable (tokens_of prefix ++ p.token ∷ []) → ⊥)

abbrev pub DeepAt : List Placed → List Placed → ℕ → Type 0
DeepAt prefix [] place = ⊥
DeepAt prefix (p ∷ ps) place = (place ≡ p.place) × Viable (tokens_of prefix ++ p.token ∷ []) × (64 < around (tokens_of prefix ++ p.token ∷ []))

-- what the tokens of a text of a size are read as, but for the width of ranges
abbrev pub ReadAs : List Placed → ℕ → Result Tree FormulaFault → Type 0
ReadAs ps size (Ok e) = Spells 4 (tokens_of ps) e × Shallow (tokens_of ps)
ReadAs ps size (Err (BadSyntax place)) =
    (prefix : List Placed) × (rest : List Placed) × (ps ≡ prefix ++ rest) × Viable (tokens_of prefix) × Shallow (tokens_of prefix) × SyntaxAt prefix rest size place
ReadAs ps size (Err (TooDeep place)) =
    (prefix : List Placed) × (rest : List Placed) × (ps ≡ prefix ++ rest) × Shallow (tokens_of prefix) × DeepAt prefix rest place
ReadAs ps size (Err _) = ⊥

-- the same as a function
abbrev pub depth : State → ℕ
depth (wants S) = depth_of S
depth (had v S) = depth_of S
depth (named f S) = depth_of S
depth (corner k f xs S) = depth_of S + 1
depth (half k f xs S) = depth_of S + 1
depth (ranged a f xs S) = depth_of S + 1

abbrev pub or_syntax : Option Tree → ℕ → Result Tree FormulaFault
or_syntax None place = Err (BadSyntax place)
or_syntax (Some e) place = Ok e

abbrev pub deeper : Option State → ℕ → (State → Result Tree FormulaFault) → Result Tree FormulaFault
deeper None place go = Err (BadSyntax place)
deeper (Some s) place go = if nat_lt 64 (depth s) then Err (TooDeep place) else go s

abbrev pub tokens_read : State → List Placed → ℕ → Result Tree FormulaFault
tokens_read s [] size = or_syntax (end_of s) size
tokens_read s (p ∷ ps) size = deeper (next_state s p.token) p.place (λ u. tokens_read u ps size)
