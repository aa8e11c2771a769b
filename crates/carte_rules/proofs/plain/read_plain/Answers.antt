use Rattle.std.proofs.Common.{◌≡◌, ◌==◌, false, length, arith}
use Rattle.std.proofs.lemmas.Grind.{common_steps}
use Rattle.std.proofs.lemmas.Bool.Decides.{nat_tests}
use Rattle.toml_parser.specs.Lexical.{first, skip_blank}
use Rattle.carte_rules.proofs.Document.{document_read}
use Rattle.carte_rules.proofs.plain.read_plain.Goals as goal

pub returns-then-is_empty-clause-document : goal.returns-then-is_empty-clause-document
returns-then-is_empty-clause-document c =
    let s = c.args.s.now in
    let r = c.in_ok-inputs.rest.now in
    let v = c.in_ok-rules.rest.now in
    let other : (first s == 0xEF) ≡ false = grind (arith, nat_tests, common_steps) in
    let start_is = c.skip_blank-3.ensures.rest in
    let end : length (skip_blank v) ≡ 0 = grind (arith, common_steps) in
    document_read s c.in_ok-header.field-0.now r c.in_ok-header-2.field-0.now v c.in_ok-inputs.inputs.items c.in_ok-by_key.field-0.items c.in_ok-rules.rules.items c.in_ok-by_key-2.field-0.items other
    (rw c.skip_blank.ensures.rest at c.in_ok-header.ensures.value) (rw c.skip_blank.ensures.rest at c.in_ok-header.ensures.shorter) (rw c.skip_blank.ensures.rest at c.skip_blank.ensures.within)
    c.in_ok-inputs.ensures.value c.in_ok-by_key.ensures.0 c.in_ok-by_key.ensures.1
    (rw c.skip_blank-2.ensures.rest at c.in_ok-header-2.ensures.value) (rw c.skip_blank-2.ensures.rest at c.in_ok-header-2.ensures.shorter) (rw c.skip_blank-2.ensures.rest at c.skip_blank-2.ensures.within)
    c.in_ok-rules.ensures.value c.in_ok-by_key-2.ensures.0 c.in_ok-by_key-2.ensures.1 end
