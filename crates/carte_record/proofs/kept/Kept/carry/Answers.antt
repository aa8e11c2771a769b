use Rattle.carte_record.proofs.Growing.{carried_by}
use Rattle.carte_record.proofs.kept.Kept.carry.Goals as goal

pub returns-in-Ok-clause-ok : goal.returns-in-Ok-clause-ok
returns-in-Ok-clause-ok c =
    let grown = c.in-Ok.ensures {u = tt} in
    carried_by c.args.batch c.in-Ok.links.items c.in-Ok.entries.items c.args.self.now c.grow.new.self c.settle.new.self grown.front grown.traces grown.rest c.settle.ensures
