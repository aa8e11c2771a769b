use Rattle.carte_sound.proofs.Standing.{stands}
use Rattle.carte_sound.proofs.premises.some_book_stands.Goals as goal

pub returns : goal.returns
returns c = stands
