use Rattle.carte_compact.proofs.Room as room
use Rattle.carte_compact.proofs.laws.due_has_room.Goals as goal

pub returns : goal.returns
returns c = room.due_has_room
