use Rattle.carte_record_one.proofs.Growing.{carried_by}
use Rattle.carte_record_one.proofs.kept.KeptOne.carry.Goals as goal

pub returns : goal.returns
returns c = carried_by c.args.batch c.args.self.now c.take_keys.new.self c.take_traces.new.self c.take_chain.new.self (c.in_ok-take_keys.ensures {u = tt}) (c.in_ok-take_traces.ensures {u = tt}) c.take_chain.ensures
