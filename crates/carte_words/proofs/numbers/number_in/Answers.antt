use Rattle.std.proofs.Common.{ap, sym, ◌∙◌}
use Rattle.std.specs.Result.{result_ok}
use Rattle.carte_words.proofs.Numerals.{is_number}
use Rattle.carte_words.proofs.numbers.number_in.Goals as goal

pub returns-in-Ok : goal.returns-in-Ok
returns-in-Ok c = ap result_ok (sym c.in-Ok.is) ∙ is_number c.args.word.now c.parse.result c.parse.ensures.value.0

pub returns-in-Err : goal.returns-in-Err
returns-in-Err c = ap result_ok (sym c.in-Err.is) ∙ is_number c.args.word.now c.parse.result c.parse.ensures.value.0
