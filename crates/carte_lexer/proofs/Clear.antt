-- What may follow a token so that both are read again as they are printed, with nothing between them.
use Rattle.std.proofs.Common.{List, [], ◌∷◌}
use Rattle.carte_lexer.specs.Tokens.{sub, add, Token, digits, quoted, word, cell, func, op, lpar, rpar, comma, colon}

-- what may follow an operand
abbrev pub Closing : List Token → Type 0
Closing [] = Unit {0}
Closing (op o ∷ ts) = Unit {0}
Closing (rpar ∷ ts) = Unit {0}
Closing (comma ∷ ts) = Unit {0}
Closing (colon ∷ ts) = Unit {0}
Closing _ = ⊥

-- what an operand may begin with
abbrev pub Opening : List Token → Type 0
Opening (digits n ∷ ts) = Unit {0}
Opening (quoted k ∷ ts) = Unit {0}
Opening (word k ∷ ts) = Unit {0}
Opening (cell k ∷ ts) = Unit {0}
Opening (func f ∷ ts) = Unit {0}
Opening (op add ∷ ts) = Unit {0}
Opening (op sub ∷ ts) = Unit {0}
Opening (lpar ∷ ts) = Unit {0}
Opening _ = ⊥

abbrev pub Bracket : List Token → Type 0
Bracket (lpar ∷ ts) = Unit {0}
Bracket _ = ⊥

abbrev pub Clear : Token → List Token → Type 0
Clear (digits n) ts = Closing ts
Clear (quoted k) ts = Closing ts
Clear (word k) ts = Closing ts
Clear (cell k) ts = Closing ts
Clear (func f) ts = Bracket ts
Clear (op o) ts = Opening ts
Clear _ ts = Unit {0}

abbrev pub AllClear : List Token → Type 0
AllClear [] = Unit {0}
AllClear (t ∷ ts) = Clear t ts × AllClear ts
