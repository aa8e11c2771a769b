use Rattle.std.proofs.Common.{ap, sym, ◌∙◌}
use Rattle.std.specs.Result.{result_ok}
use Rattle.carte_trim.proofs.Digits.{parsed, signed}
use Rattle.carte_trim.proofs.words.digits_in.Goals as goal

pub returns-then-has_plus : goal.returns-then-has_plus
returns-then-has_plus c = signed c.args.word.now (sym c.has_plus.ensures ∙ c.if-has_plus.true)

pub returns-in-Ok : goal.returns-in-Ok
returns-in-Ok c = ap result_ok (sym c.in-Ok.is) ∙ parsed c.args.word.now c.parse.result (sym c.has_plus.ensures ∙ c.if-has_plus.false) c.parse.ensures.value.0

pub returns-in-Err : goal.returns-in-Err
returns-in-Err c = ap result_ok (sym c.in-Err.is) ∙ parsed c.args.word.now c.parse.result (sym c.has_plus.ensures ∙ c.if-has_plus.false) c.parse.ensures.value.0
