use Rattle.std.proofs.Common.{◌≡◌, ◌==◌, ◌∙◌, false, length, arith}
use Rattle.std.proofs.lemmas.Grind.{common_steps}
use Rattle.std.proofs.lemmas.Bool.{ne_eqb}
use Rattle.toml_parser.specs.Lexical.{first, skip_blank}
use Rattle.carte_rules.proofs.Document.{document_read}
use Rattle.carte_rules.proofs.Orders.{IsDocumentOf, finished}
use Rattle.carte_rules.proofs.direct.book_of_lines.Goals as goal

pub returns-then-is_empty : goal.returns-then-is_empty
returns-then-is_empty c =
    let s = c.args.s.now in
    let r = c.in_ok-rest.rest.now in
    let v = c.in_ok-rest-2.rest.now in
    let (es, m, pairs_t, put, holds) = c.in_ok-rest.ensures.put in
    let (gs, n, pairs_u, read, all) = c.in_ok-rest-2.ensures.put m holds in
    let other : (first s == 0xEF) ≡ false = ne_eqb (first s) 0xEF (λ e. c.if-first-eq239.false (c.first.ensures ∙ e)) in
    let start_is = c.skip_blank-3.ensures.rest in
    let end : length (skip_blank v) ≡ 0 = grind (arith, common_steps) in
    let text : IsDocumentOf s es gs = λ fs hs inputs_so rules_so.
    document_read s c.in_ok-inputs.inputs.now r c.in_ok-rules.rules.now v es fs gs hs other
    (rw c.skip_blank.ensures.rest at c.in_ok-inputs.ensures.value) (rw c.skip_blank.ensures.rest at c.in_ok-inputs.ensures.shorter) (rw c.skip_blank.ensures.rest at c.skip_blank.ensures.within)
    pairs_t inputs_so.0 inputs_so.1
    (rw c.skip_blank-2.ensures.rest at c.in_ok-rules.ensures.value) (rw c.skip_blank-2.ensures.rest at c.in_ok-rules.ensures.shorter) (rw c.skip_blank-2.ensures.rest at c.skip_blank-2.ensures.within)
    pairs_u rules_so.0 rules_so.1 end in
    rw c.ok-then-is_empty.ensures.value (finished s es gs m n c.finish.result text put read (c.finish.ensures n all))
