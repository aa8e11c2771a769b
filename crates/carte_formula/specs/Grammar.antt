-- Which tokens spell which formula.
use Rattle.std.specs.Prelude.{ℕ, ℤ, zero, suc, true, List, [], ◌∷◌, ◌++◌, length, ◌≡◌, ◌≤◌}
use Rattle.carte_value.specs.Areas.{area_of}
use Rattle.carte_tree.specs.Tree.{level_of, rank, Tree, number, text, ref, neg, chain, Arg, one, cells, Term, steps_of, Arity, many, between, arity, takes_ranges, called_tree}
use Rattle.carte_formula.specs.Tokens.{Op, sub, add, Level, Func, Token, digits, quoted, word, cell, func, op, lpar, rpar, comma, colon}

-- so many arguments are right for a function
abbrev pub Counts : Arity → ℕ → Type 0
Counts many n = Unit {0}
Counts (between a b) n = (a ≤ n) × (n ≤ b)

mutual
  -- Spells n: a chain of operators of ranks below n, or less. 0 is `unary`, 1 `product`, 2 `sum`, 3 `concat`, 4 `compare`
  pub data Spells : ℕ → List Token → Tree → Type 0 where
    unary : {ts : List Token} {e : Tree} → Unary ts e → Spells zero ts e
    single : {n : ℕ} {ts : List Token} {e : Tree} → Spells n ts e → Spells (suc n) ts e
    chained : {l : Level} {ts us vs : List Token} {e d : Tree} {ss : List Term} → Spells (rank l) ts e → (o : Op) → level_of o ≡ l → Spells (rank l) us d → Repeats l vs ss
        → Spells (suc (rank l)) (ts ++ (op o ∷ (us ++ vs))) (chain l e (steps_of (record { op = o; operand = d } ∷ ss)))

  -- { operator operand }
  pub data Repeats : Level → List Token → List Term → Type 0 where
    none : {l : Level} → Repeats l [] []
    more : {l : Level} {us vs : List Token} {d : Tree} {ss : List Term} → (o : Op) → level_of o ≡ l → Spells (rank l) us d → Repeats l vs ss
        → Repeats l (op o ∷ (us ++ vs)) (record { op = o; operand = d } ∷ ss)

  pub data Unary : List Token → Tree → Type 0 where
    primary : {ts : List Token} {e : Tree} → Primary ts e → Unary ts e
    negated : {ts : List Token} {e : Tree} → Unary ts e → Unary (op sub ∷ ts) (neg e)
    posited : {ts : List Token} {e : Tree} → Unary ts e → Unary (op add ∷ ts) e

  pub data Primary : List Token → Tree → Type 0 where
    a_number : (n : ℤ) → Primary (digits n ∷ []) (number n)
    a_text : (k : List ℕ) → Primary (quoted k ∷ []) (text k)
    a_word : (k : List ℕ) → Primary (word k ∷ []) (ref k)
    a_cell : (k : List ℕ) → Primary (cell k ∷ []) (ref k)
    a_call : {f : Func} {ts : List Token} {xs : List Arg} → Arguments f ts xs → Counts (arity f) (length xs) → Primary (func f ∷ lpar ∷ (ts ++ rpar ∷ [])) (called_tree f xs)
    a_group : {ts : List Token} {e : Tree} → Spells 4 ts e → Primary (lpar ∷ (ts ++ rpar ∷ [])) e

  pub data Argument : Func → List Token → Arg → Type 0 where
    formula : {f : Func} {ts : List Token} {e : Tree} → Spells 4 ts e → Argument f ts (one e)
    range : {f : Func} → takes_ranges f ≡ true → (a b : List ℕ) → Argument f (cell a ∷ colon ∷ cell b ∷ []) (cells (area_of a b))

  pub data Arguments : Func → List Token → List Arg → Type 0 where
    last : {f : Func} {ts : List Token} {x : Arg} → Argument f ts x → Arguments f ts (x ∷ [])
    next : {f : Func} {ts us : List Token} {x : Arg} {xs : List Arg} → Argument f ts x → Arguments f us xs → Arguments f (ts ++ (comma ∷ us)) (x ∷ xs)

-- a formula's tokens begin so
abbrev pub Viable : List Token → Type 0
Viable prefix = (rest : List Token) × (e : Tree) × Spells 4 (prefix ++ rest) e
