use Rattle.std.proofs.Common.{sym, ◌∙◌, ap, slice_index}
use Rattle.carte_lexer.specs.Lexer.{start_by, start_of, single}
use Rattle.carte_formula.specs.Tokens.{sign_token}
use Rattle.carte_formula.proofs.parser.follow.Goals as goal

pub follow_sign-requires-clause-start : goal.follow_sign-requires-clause-start
follow_sign-requires-clause-start c = ap (λ bs. start_of c.args.kind (slice_index bs c.args.at)) (sym c.as_bytes.ensures.value) ∙ sym c.start_of.ensures ∙ ap start_by c.in-Sign-Comma.is ∙ ap (λ s. single (sign_token s)) c.in-Sign-Comma.field-0-is

pub follow_sign-requires-in-Sign-Close-clause-start : goal.follow_sign-requires-in-Sign-Close-clause-start
follow_sign-requires-in-Sign-Close-clause-start c = ap (λ bs. start_of c.args.kind (slice_index bs c.args.at)) (sym c.as_bytes.ensures.value) ∙ sym c.start_of.ensures ∙ ap start_by c.in-Sign-Close.is ∙ ap (λ s. single (sign_token s)) c.in-Sign-Close.field-0-is
