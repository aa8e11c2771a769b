-- Tokens as the grammar names them.
pub use Rattle.carte_value.specs.declared.area.Area.{Area}
pub use Rattle.carte_tree.specs.declared.expr.Level.{Level}
pub use Rattle.carte_tree.specs.declared.expr.Level.TheVariants.{Compare as compare, Concat as concat, Sum as sum, Product as product}
pub use Rattle.carte_tree.specs.declared.expr.Op.{Op}
pub use Rattle.carte_tree.specs.declared.expr.Op.TheVariants.{Eq as eq, Ne as ne, Lt as lt, Le as le, Gt as gt, Ge as ge, Join as join, Add as add, Sub as sub, Mul as mul, Div as div}
pub use Rattle.carte_tree.specs.declared.expr.Func.{Func}
pub use Rattle.carte_lexer.specs.declared.tokens.Token.{Token}
pub use Rattle.carte_lexer.specs.declared.tokens.Token.TheVariants.{Number as digits, Text as quoted, Word as word, Cell as cell, Func as func, Op as op, Open as lpar, Close as rpar, Comma as comma, Colon as colon}
pub use Rattle.carte_lexer.specs.declared.tokens.Placed.{Placed}
pub use Rattle.carte_lexer.specs.declared.tokens.Sign.{Sign}
pub use Rattle.carte_lexer.specs.Tokens.{sign_token, tokens_of}
