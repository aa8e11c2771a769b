use Rattle.std.proofs.Common.{sym, ◌∙◌, ap, slice_index}
use Rattle.carte_lexer.specs.Tokens.{sign_token}
use Rattle.carte_lexer.specs.Lexer.{start_by, start_of}
use Rattle.carte_lexer.proofs.Taking.{blank_met, sign_met, wrong_taken}
use Rattle.carte_lexer.proofs.lexer.meet.Goals as goal

pub returns-in-Blank : goal.returns-in-Blank
returns-in-Blank c = blank_met c.args.kind c.args.text.now c.args.at c.requires (ap (λ bs. start_of c.args.kind (slice_index bs c.args.at)) (sym c.as_bytes.ensures.value) ∙ sym c.start_of.ensures ∙ ap start_by c.in-Blank.is)

pub returns-in-Sign : goal.returns-in-Sign
returns-in-Sign c =
    rw c.token.ensures
    (sign_met c.args.kind c.args.text.now c.args.at (sign_token c.in-Sign.sign) c.requires (ap (λ bs. start_of c.args.kind (slice_index bs c.args.at)) (sym c.as_bytes.ensures.value) ∙ sym c.start_of.ensures ∙ ap start_by c.in-Sign.is))

pub returns-in-Wrong : goal.returns-in-Wrong
returns-in-Wrong c = wrong_taken c.args.kind c.args.text.now c.args.at c.requires (ap (λ bs. start_of c.args.kind (slice_index bs c.args.at)) (sym c.as_bytes.ensures.value) ∙ sym c.start_of.ensures ∙ ap start_by c.in-Wrong.is)

pub meet_run-requires-clause-start : goal.meet_run-requires-clause-start
meet_run-requires-clause-start c = ap (λ bs. start_of c.args.kind (slice_index bs c.args.at)) (sym c.as_bytes.ensures.value) ∙ sym c.start_of.ensures ∙ ap start_by c.in-Run.is
