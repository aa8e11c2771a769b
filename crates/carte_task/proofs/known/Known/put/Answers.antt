use Rattle.std.proofs.Common.{ap, sym}
use Rattle.carte_task.proofs.Keeping.{put_behind}
use Rattle.carte_task.proofs.known.Known.put.Goals as goal

pub returns : goal.returns
returns c = put_behind _ _ _ _ c.args.name c.args.value (ap (λ k. k.entries) (sym c.self.view_is)) c.requires.new c.put_more.ensures
