use Rattle.std.proofs.Common.{refl}
use Rattle.carte_words.proofs.Commands.{words_none}
use Rattle.carte_words.proofs.Meanings.{no_clean}
use Rattle.carte_words.proofs.script.read_clean.Goals as goal

pub returns-in-Some : goal.returns-in-Some
returns-in-Some c = λ kind. no_clean kind c.args.rest.now c.in-Some.field-0.0.now c.in-Some.field-0.1.now c.in-Some.ensures

pub returns-in-None : goal.returns-in-None
returns-in-None c = λ kind. (refl, words_none c.args.rest.now c.in-None.ensures)
