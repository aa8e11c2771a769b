use Rattle.std.proofs.Common.{◌≡◌, ◌==◌, false, arith}
use Rattle.std.proofs.lemmas.Grind.{common_steps}
use Rattle.std.proofs.lemmas.Bool.Decides.{nat_tests}
use Rattle.toml_parser.specs.Lexical.{first}
use Rattle.toml.proofs.Turns.{val_atom}
use Rattle.carte_rules.proofs.line.value.Goals as goal

pub returns-then-starts_string-clause-value : goal.returns-then-starts_string-clause-value
returns-then-starts_string-clause-value c =
    let s = c.args.s.now in
    let a : (first s == 91) ≡ false = grind (arith, nat_tests, common_steps) in
    let b : (first s == 123) ≡ false = grind (arith, nat_tests, common_steps) in
    rw (val_atom 80 s a b) c.text.ensures.value

pub returns-else-first-eq123-clause-value : goal.returns-else-first-eq123-clause-value
returns-else-first-eq123-clause-value c =
    let s = c.args.s.now in
    let a : (first s == 91) ≡ false = grind (arith, nat_tests, common_steps) in
    let b : (first s == 123) ≡ false = grind (arith, nat_tests, common_steps) in
    rw (val_atom 80 s a b) c.number.ensures.value
