use Rattle.std.proofs.Common.{sym, ◌∙◌, ap, slice_index}
use Rattle.carte_lexer.specs.Lexer.{start_by, start_of}
use Rattle.carte_formula.proofs.Resuming.{blank_advances, wrong_advances}
use Rattle.carte_formula.proofs.parser.advance.Goals as goal

pub returns-in-Blank : goal.returns-in-Blank
returns-in-Blank c = blank_advances c.args.kind c.args.text.now c.args.at c.args.progress.now c.requires (ap (λ bs. start_of c.args.kind (slice_index bs c.args.at)) (sym c.as_bytes.ensures.value) ∙ sym c.start_of.ensures ∙ ap start_by c.in-Blank.is)

pub returns-in-Wrong : goal.returns-in-Wrong
returns-in-Wrong c = wrong_advances c.args.kind c.args.text.now c.args.at c.args.progress.now c.requires (ap (λ bs. start_of c.args.kind (slice_index bs c.args.at)) (sym c.as_bytes.ensures.value) ∙ sym c.start_of.ensures ∙ ap start_by c.in-Wrong.is)

pub advance_sign-requires-clause-start : goal.advance_sign-requires-clause-start
advance_sign-requires-clause-start c = ap (λ bs. start_of c.args.kind (slice_index bs c.args.at)) (sym c.as_bytes.ensures.value) ∙ sym c.start_of.ensures ∙ ap start_by c.in-Sign.is

pub advance_run-requires-clause-start : goal.advance_run-requires-clause-start
advance_run-requires-clause-start c = ap (λ bs. start_of c.args.kind (slice_index bs c.args.at)) (sym c.as_bytes.ensures.value) ∙ sym c.start_of.ensures ∙ ap start_by c.in-Run.is
