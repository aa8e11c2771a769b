use Rattle.std.proofs.Common.{◌≡◌, ◌==◌, true, [], string_bytes, arith}
use Rattle.std.proofs.lemmas.Grind.{common_steps}
use Rattle.std.proofs.lemmas.Bool.Decides.{nat_tests}
use Rattle.std.proofs.lemmas.List.{nil_from_length}
use Rattle.std.proofs.lemmas.Slice.Eq.{bytes_eq-Decides}
use Rattle.toml_parser.specs.Lexical.{first}
use Rattle.carte_rules.proofs.Lines.{header_key_read}
use Rattle.carte_rules.proofs.line.header_key.Goals as goal

pub returns-then-first-eq93-clause-value : goal.returns-then-first-eq93-clause-value
returns-then-first-eq93-clause-value c =
    let none : c.in-Ok.key.path.items ≡ [] = nil_from_length c.in-Ok.key.path.items (grind (arith, nat_tests, common_steps)) in
    let name : string_bytes c.in-Ok.key.last ≡ c.args.name.now = (bytes_eq-Decides (string_bytes c.in-Ok.key.last) c.args.name.now).0 (grind (arith, common_steps)) in
    let closing : (first c.in-Ok.rest.now == 93) ≡ true = grind (arith, nat_tests, common_steps) in
    rw c.skip.ensures.rest (header_key_read c.args.s.now c.args.name.now c.in-Ok.rest.now c.in-Ok.key.path.items c.in-Ok.key.last (rw (← c.skip_ws.ensures.rest) c.in-Ok.ensures.value) none name closing)
