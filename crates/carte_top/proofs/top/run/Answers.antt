use Rattle.std.proofs.Common.{[], arith, refl}
use Rattle.carte_top.specs.Around.{over_source, over_disk, over_sink}
use Rattle.carte_top.proofs.Outcomes.{ran_so, unasked}
use Rattle.carte_top.proofs.top.run.Goals as goal

pub returns-in-Ok : goal.returns-in-Ok
returns-in-Ok g c =
    ran_so 536870912 c.args.words.now c.in-Ok.asked (over_source g.B.Source.tells g.B.Source.state c.args.book.now c.command.new.book)
    (over_source g.S.Source.tells g.S.Source.state c.args.script.now c.command.new.script)
    (over_disk g.D.Disk.tells g.D.Disk.story g.D.Disk.faults c.args.state.now c.command.new.state)
    (over_sink g.O.Sink.tells g.O.Sink.state c.args.out.now c.command.new.out) c.command.result c.in-Ok.ensures.words c.command.ensures

pub returns-in-Err : goal.returns-in-Err
returns-in-Err g c =
    rw c.usage.ensures (unasked 536870912 c.args.words.now (over_source g.B.Source.tells g.B.Source.state c.args.book.now c.args.book.now)
    (over_source g.S.Source.tells g.S.Source.state c.args.script.now c.args.script.now)
    (over_disk g.D.Disk.tells g.D.Disk.story g.D.Disk.faults c.args.state.now c.args.state.now)
    (over_sink g.O.Sink.tells g.O.Sink.state c.args.out.now c.args.out.now) c.in-Err.fault c.in-Err.ensures.words
    (refl, refl) (refl, refl) (record { same = refl; story = refl; faults = refl }) (refl, refl, refl) (record { bytes = []; has = omega arith; first = λ told. refl }))

pub command-requires : goal.command-requires
command-requires g c = (c.type_bounds.sync-G, (c.type_bounds.sync-T, c.in-Ok.ensures.count))
