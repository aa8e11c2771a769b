-- What the texts of formulas are made of.
use Rattle.std.specs.Prelude.{List, [], ◌∷◌}
pub use Rattle.carte_tree.specs.declared.expr.Op.{Op}
pub use Rattle.carte_tree.specs.declared.expr.Op.TheVariants.{Eq as eq, Ne as ne, Lt as lt, Le as le, Gt as gt, Ge as ge, Join as join, Add as add, Sub as sub, Mul as mul, Div as div}
pub use Rattle.carte_tree.specs.declared.expr.Func.{Func}
pub use Rattle.carte_lexer.specs.declared.tokens.Token.{Token}
pub use Rattle.carte_lexer.specs.declared.tokens.Token.TheVariants.{Number as digits, Text as quoted, Word as word, Cell as cell, Func as func, Op as op, Open as lpar, Close as rpar, Comma as comma, Colon as colon}
pub use Rattle.carte_lexer.specs.declared.tokens.Placed.{Placed}
pub use Rattle.carte_lexer.specs.declared.tokens.Sign.{Sign}
use Rattle.carte_lexer.specs.declared.tokens.Sign.TheVariants as signs

-- a sign as a token
abbrev pub sign_token : Sign → Token
sign_token (signs.Op o) = op o
sign_token signs.Open = lpar
sign_token signs.Close = rpar
sign_token signs.Comma = comma
sign_token signs.Colon = colon

-- the tokens without their places
abbrev pub tokens_of : List Placed → List Token
tokens_of [] = []
tokens_of (p ∷ ps) = p.token ∷ tokens_of ps
