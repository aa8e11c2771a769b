use Rattle.std.proofs.Common.{◌≡◌, [], Some, ◌∙◌, arith}
use Rattle.std.proofs.lemmas.Grind.{common_steps}
use Rattle.std.proofs.lemmas.Bool.Decides.{nat_tests}
use Rattle.toml_parser.specs.Strings.{simple_key}
use Rattle.toml_parser.proofs.StringsLemmas.{key_after_turn}
use Rattle.carte_rules.proofs.line.key.Goals as goal

pub returns-else-first-eq46-clause-value : goal.returns-else-first-eq46-clause-value
returns-else-first-eq46-clause-value c =
    let read : simple_key c.args.s.now ≡ Some (c.in_ok-name.name.now, c.in_ok-name.after.now) = c.in_ok-name.ensures.value in
    key_after_turn 80 [] c.args.s.now (omega arith) ∙ rw read (grind (arith, nat_tests, common_steps))
