use Rattle.carte_task.proofs.Readings.{reads}
use Rattle.carte_task.proofs.static_task.StaticTask.run.Goals as goal

pub returns-clause-reads : goal.returns-clause-reads
returns-clause-reads g c = reads _ _ g.B.FetchList.withholds _ _ c.args.self.now _ _ _ c.static_needs.ensures c.ask.ensures.ran
