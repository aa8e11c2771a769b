use Rattle.carte_book.proofs.Clean.{clean_settled}
use Rattle.carte_book.proofs.laws.clean_is_settled.Goals as goal

pub returns : goal.returns
returns c = λ b. clean_settled b
