use Rattle.std.proofs.Common.{◌≡◌, [], IfOk, subst}
use Rattle.carte_io.specs.MemDisks.{begun_disk}
use Rattle.carte_history.specs.Shown.{IsShown, Ran}
use Rattle.carte_history.proofs.Showing.{stopped_begun, stopped_first}
use Rattle.carte_history.proofs.show.show.Goals as goal

pub show_over-requires-clause-stops : goal.show_over-requires-clause-stops
show_over-requires-clause-stops g c = λ κs lives. stopped_begun c.args.run.now.stop c.args.disk.now c.stop.new.disk c.stop.ensures c.requires.begun

pub returns : goal.returns
returns g c =
    subst (λ file. IfOk c.show_over.result (λ s. (c.show_over.new.disk ≡ begun_disk s.image.items []) × (ran : Ran) × IsShown 536870912 file c.args.run.now s ran))
    (stopped_first c.args.run.now.stop c.args.disk.now c.stop.new.disk c.stop.ensures) c.show_over.ensures
