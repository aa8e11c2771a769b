use Rattle.std.proofs.Common.{◌≡◌, sym, ◌∙◌, arith, length}
use Rattle.std.proofs.lemmas.Bool.{eqb-false}
use Rattle.carte_value.proofs.Quotes.{unescaped_none}
use Rattle.carte_value.proofs.reading.unescape.Goals as goal

pub returns-in_default : goal.returns-in_default
returns-in_default c = λ bytes same.
    let rest = c.loop-rest.rest.now in
    let some : ¬ (length rest ≡ 0) = eqb-false (length rest) 0 (sym c.is_empty.ensures ∙ c.loop-rest-test.true) in
    unescaped_none c.loop-rest.bytes.items rest (omega arith) c.in_default.ensures bytes (sym c.loop-rest.invariant ∙ same)
