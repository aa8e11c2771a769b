-- Which tokens a text of a kind can have.
use Rattle.std.specs.Prelude.{pos, negsuc, true, List, [], ◌∷◌, ◌≡◌, ◌≤◌, ◌<◌, ◌^◌, length}
use Rattle.carte_name.specs.Names.{is_rule_name, is_cell_name}
use Rattle.carte_name.specs.declared.kind.Kind.{Kind}
use Rattle.carte_name.specs.declared.kind.Kind.TheVariants.{Rules, Sheet}
use Rattle.carte_lexer.specs.Tokens.{Token, digits, quoted, word, cell}

abbrev pub OfKind : Kind → Token → Type 0
OfKind q (digits (pos n)) = n < 2 ^ 63
OfKind q (digits (negsuc n)) = ⊥
OfKind q (quoted k) = length k ≤ 65536
OfKind Rules (word k) = is_rule_name k ≡ true
OfKind Sheet (word k) = ⊥
OfKind Rules (cell k) = ⊥
OfKind Sheet (cell k) = is_cell_name k ≡ true
OfKind q _ = Unit {0}

abbrev pub AllOfKind : Kind → List Token → Type 0
AllOfKind q [] = Unit {0}
AllOfKind q (t ∷ ts) = OfKind q t × AllOfKind q ts
