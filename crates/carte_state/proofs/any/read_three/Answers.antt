use Rattle.carte_state.proofs.Reading.{three_decoded}
use Rattle.carte_state.proofs.any.read_three.Goals as goal

pub returns : goal.returns
returns c kind = rw c.of_three.ensures (three_decoded c.args.bytes.now c.decode_three.result kind c.decode_three.ensures)
