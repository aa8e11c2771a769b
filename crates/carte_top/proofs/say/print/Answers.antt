use Rattle.carte_top.proofs.Printing.{prints_behind, prints_no_front}
use Rattle.carte_top.proofs.say.print.Goals as goal

pub returns-in-Ok : goal.returns-in-Ok
returns-in-Ok g c =
    prints_behind g.O.Sink.tells (g.O.Sink.state c.args.out.now) c.args.front.now c.args.bytes.now (g.O.Sink.state c.write_all.new.sink) (g.O.Sink.state c.print_reply.new.out)
    c.in-Ok.ensures.ok (c.in-Ok.ensures.cause.passed) c.print_reply.result c.print_reply.ensures

pub returns-in-Err : goal.returns-in-Err
returns-in-Err g c =
    prints_no_front g.O.Sink.tells (g.O.Sink.state c.args.out.now) c.args.front.now c.args.bytes.now (g.O.Sink.state c.write_all.new.sink) c.in-Err.ensures.err c.in-Err.ensures.cause.failed
