use Rattle.std.proofs.Common.{rules}
use Rattle.carte_words.specs.Arguments.{carte}
use Rattle.carte_words.proofs.parse.arguments.Goals as goal

pub returns : goal.returns
unfolding carte
returns c = search rules
