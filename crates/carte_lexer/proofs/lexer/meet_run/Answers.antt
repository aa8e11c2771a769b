use Rattle.std.proofs.Common.{sym, ◌∙◌, ap, slice_range}
use Rattle.carte_lexer.specs.Lexer.{token_of}
use Rattle.carte_lexer.proofs.Taking.{run_known, run_along, run_met, run_bad, run_is_over}
use Rattle.carte_lexer.proofs.lexer.meet_run.Goals as goal

pub run_end-last-requires-clause-known : goal.run_end-last-requires-clause-known
run_end-last-requires-clause-known c = rw c.as_bytes.ensures.value (run_known c.args.kind c.args.text.now c.args.at c.args.class c.requires.place c.requires.start)

pub returns-in-Inside : goal.returns-in-Inside
returns-in-Inside c =
    run_bad c.args.kind c.args.text.now c.args.at c.args.class c.run_end-last.result.0 c.run_end-last.result.1 c.requires.place c.requires.start (run_along c.as_bytes.result.now c.args.text.now c.args.class c.run_end-last.result.0 c.args.at c.run_end-last.result.1 c.as_bytes.ensures.value c.run_end-last.ensures)
    (ap (λ d. token_of d (slice_range c.args.text.now c.args.at c.run_end-last.result.1)) (sym c.in-Inside.is))

pub range-requires-clause-end_boundary : goal.range-requires-clause-end_boundary
range-requires-clause-end_boundary c =
    run_is_over c.args.text.now c.args.at c.args.class c.run_end-last.result.0 c.run_end-last.result.1 c.utf8.text (run_along c.as_bytes.result.now c.args.text.now c.args.class c.run_end-last.result.0 c.args.at c.run_end-last.result.1 c.as_bytes.ensures.value c.run_end-last.ensures) c.in_default.not-Inside

pub returns-in-Some : goal.returns-in-Some
returns-in-Some c =
    run_met c.args.kind c.args.text.now c.args.at c.args.class c.run_end-last.result.0 c.run_end-last.result.1 c.in-Some.token c.requires.place c.requires.start
    (run_along c.as_bytes.result.now c.args.text.now c.args.class c.run_end-last.result.0 c.args.at c.run_end-last.result.1 c.as_bytes.ensures.value c.run_end-last.ensures) (sym c.in-Some.is ∙ c.in_ok-token.ensures ∙ ap (λ bs. token_of c.run_end-last.result.0 bs) c.range.ensures.value)

pub returns-in-None : goal.returns-in-None
returns-in-None c =
    run_bad c.args.kind c.args.text.now c.args.at c.args.class c.run_end-last.result.0 c.run_end-last.result.1 c.requires.place c.requires.start (run_along c.as_bytes.result.now c.args.text.now c.args.class c.run_end-last.result.0 c.args.at c.run_end-last.result.1 c.as_bytes.ensures.value c.run_end-last.ensures)
    (sym c.in-None.is ∙ c.in_ok-token.ensures ∙ ap (λ bs. token_of c.run_end-last.result.0 bs) c.range.ensures.value)
