use Rattle.std.proofs.Common.{◌≡◌, ◌==◌, ◌<◌, true, length, arith}
use Rattle.std.proofs.lemmas.Grind.{common_steps}
use Rattle.std.proofs.lemmas.Bool.Decides.{nat_tests}
use Rattle.toml_parser.specs.Lexical.{first}
use Rattle.carte_rules.proofs.Lines.{one_line_read}
use Rattle.carte_rules.proofs.line.one_line.Goals as goal

pub returns-then-first-delim-clause-value : goal.returns-then-first-delim-clause-value
returns-then-first-delim-clause-value c =
    let some : 0 < length c.args.s.now = omega (arith, c.skip.ensures.shorter) in
    let closing : (first c.split_plain.result.1.now == first c.args.s.now) ≡ true = grind (arith, nat_tests, common_steps) in
    rw c.skip-then-first-delim.ensures.rest (one_line_read c.args.s.now c.split_plain.result.0.now c.split_plain.result.1.now some (rw (c.skip.ensures.rest, c.first-delim.ensures) at c.split_plain.ensures.parts) closing)
