use Rattle.std.proofs.Common.{◌≡◌, ◌==◌, true, false, arith}
use Rattle.std.proofs.lemmas.Grind.{common_steps}
use Rattle.std.proofs.lemmas.Bool.Decides.{nat_tests}
use Rattle.toml_parser.specs.Lexical.{first, skip_ws}
use Rattle.toml.specs.Parse.{ends_line}
use Rattle.carte_rules.specs.Entries.{data_of}
use Rattle.carte_rules.proofs.Lines.{pair_read}
use Rattle.carte_rules.proofs.line.pair.Goals as goal

pub returns-then-ends_line-clause-value : goal.returns-then-ends_line-clause-value
returns-then-ends_line-clause-value c =
    let s = c.args.s.now in
    let no_header : (first s == 91) ≡ false = grind (arith, nat_tests, common_steps) in
    let ended : ends_line (skip_ws c.in_ok-held.rest.now) ≡ true = grind (arith, common_steps) in
    pair_read s c.in_ok-key.key.now c.in_ok-key.at_value.now c.in_ok-held.rest.now (data_of c.in_ok-held.held) no_header c.in_ok-key.ensures.value c.in_ok-held.ensures.value ended
