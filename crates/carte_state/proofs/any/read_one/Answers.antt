use Rattle.carte_state.proofs.Reading.{one_decoded}
use Rattle.carte_state.proofs.any.read_one.Goals as goal

pub returns : goal.returns
returns c kind = rw c.of_one.ensures (one_decoded c.args.bytes.now c.decode.result kind c.decode.ensures)
