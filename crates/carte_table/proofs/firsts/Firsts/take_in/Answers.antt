use Rattle.carte_table.proofs.Steps.{replaced_more}
use Rattle.carte_table.proofs.firsts.Firsts.take_in.Goals as goal

pub loop-item-preserved : goal.loop-item-preserved
loop-item-preserved g c = replaced_more g.T.Keyed.key_of c.loop-item.yielded c.args.self.now c.loop-item.self c.replace.new.self c.in-Some.item c.loop-item.invariant c.replace.ensures
