use Rattle.std.proofs.Common.{take, false, ap, ◌∙◌, arith}
use Rattle.std.specs.List.{prefix_len}
use Rattle.std.proofs.lemmas.List.{take_rest}
use Rattle.toml_parser.specs.Strings.{is_plain}
use Rattle.carte_rules.proofs.Runs.{run_ends, run_goes_on}
use Rattle.carte_rules.proofs.line.plain_len.Goals as goal

pub returns-then-run-lt16-clause-len : goal.returns-then-run-lt16-clause-len
returns-then-run-lt16-clause-len c =
    let p = is_plain c.args.delim false in
    let bytes = c.args.bytes.now in
    let start = c.runs.start in
    let here = c.plain_among-run.ensures.len ∙ ap (λ l. prefix_len p (take 16 l)) (take_rest bytes start) in
    run_ends p bytes start c.plain_among-run.result 16 _ (omega arith) here c.if-run-lt16.true c.runs.invariant.1

pub runs-preserved : goal.runs-preserved
runs-preserved c =
    let p = is_plain c.args.delim false in
    let bytes = c.args.bytes.now in
    let start = c.runs.start in
    let here = c.plain_among-run.ensures.len ∙ ap (λ l. prefix_len p (take 16 l)) (take_rest bytes start) in (
      omega (arith, c.plain_among-run.ensures.within),
      run_goes_on p bytes start c.plain_among-run.result 16 _ (omega arith) here c.if-run-lt16.false c.runs.invariant.1,
    )
