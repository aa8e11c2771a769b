use Rattle.carte_state.proofs.Reading.{four_decoded}
use Rattle.carte_state.proofs.any.read_four.Goals as goal

pub returns : goal.returns
returns c apart other = rw c.of_four.ensures (four_decoded c.args.bytes.now c.decode.result apart other c.decode.ensures)
