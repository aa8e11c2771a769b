use Rattle.std.proofs.Common.{[], arith, refl}
use Rattle.carte_top.specs.Around.{over_source, over_disk, over_sink}
use Rattle.carte_top.proofs.Commands.{for_build, for_clean, for_explain, for_generate, for_session}
use Rattle.carte_top.proofs.top.command.Goals as goal

pub returns-in-Build : goal.returns-in-Build
returns-in-Build g c =
    for_build 536870912 c.args.asked (over_source g.B.Source.tells g.B.Source.state c.args.book.now c.build.new.source)
    (over_source g.S.Source.tells g.S.Source.state c.args.script.now c.args.script.now)
    (over_disk g.D.Disk.tells g.D.Disk.story g.D.Disk.faults c.args.state.now c.build.new.state)
    (over_sink g.O.Sink.tells g.O.Sink.state c.args.out.now c.build.new.out) c.build.result c.in-Build.is (refl, refl) c.build.ensures

pub returns-in-Explain : goal.returns-in-Explain
returns-in-Explain g c =
    for_explain 536870912 c.args.asked (over_source g.B.Source.tells g.B.Source.state c.args.book.now c.explain.new.source)
    (over_source g.S.Source.tells g.S.Source.state c.args.script.now c.args.script.now)
    (over_disk g.D.Disk.tells g.D.Disk.story g.D.Disk.faults c.args.state.now c.explain.new.state)
    (over_sink g.O.Sink.tells g.O.Sink.state c.args.out.now c.explain.new.out) c.explain.result c.in-Explain.is (refl, refl) c.explain.ensures

pub returns-in-Session : goal.returns-in-Session
returns-in-Session g c =
    for_session 536870912 c.args.asked (over_source g.B.Source.tells g.B.Source.state c.args.book.now c.session.new.source)
    (over_source g.S.Source.tells g.S.Source.state c.args.script.now c.session.new.script)
    (over_disk g.D.Disk.tells g.D.Disk.story g.D.Disk.faults c.args.state.now c.session.new.state)
    (over_sink g.O.Sink.tells g.O.Sink.state c.args.out.now c.session.new.out) c.session.result c.in-Session.is c.session.ensures

pub returns-in-Clean : goal.returns-in-Clean
returns-in-Clean g c =
    for_clean 536870912 c.args.asked (over_source g.B.Source.tells g.B.Source.state c.args.book.now c.args.book.now)
    (over_source g.S.Source.tells g.S.Source.state c.args.script.now c.args.script.now)
    (over_disk g.D.Disk.tells g.D.Disk.story g.D.Disk.faults c.args.state.now c.clean.new.state)
    (over_sink g.O.Sink.tells g.O.Sink.state c.args.out.now c.clean.new.out) c.clean.result c.in-Clean.is (refl, refl) (refl, refl)
    (record { bytes = []; has = omega arith; first = λ told. refl }) c.clean.ensures

pub generate-requires-clause-least : goal.generate-requires-clause-least
generate-requires-clause-least g c κs within = (c.requires c.in-Generate.is).0

pub generate-requires-clause-most : goal.generate-requires-clause-most
generate-requires-clause-most g c κs within = (c.requires c.in-Generate.is).1

pub returns-in-Generate : goal.returns-in-Generate
returns-in-Generate g c =
    for_generate 536870912 c.args.asked (over_source g.B.Source.tells g.B.Source.state c.args.book.now c.args.book.now)
    (over_source g.S.Source.tells g.S.Source.state c.args.script.now c.args.script.now)
    (over_disk g.D.Disk.tells g.D.Disk.story g.D.Disk.faults c.args.state.now c.generate.new.state)
    (over_sink g.O.Sink.tells g.O.Sink.state c.args.out.now c.generate.new.out) c.generate.result c.in-Generate.is (refl, refl) (refl, refl)
    (record { bytes = []; has = omega arith; first = λ told. refl }) c.generate.ensures
