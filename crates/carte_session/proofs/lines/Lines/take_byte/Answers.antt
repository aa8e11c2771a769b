use Rattle.std.proofs.lemmas.Result.{err_from_is_err_and}
use Rattle.carte_session.proofs.SessionLemmas.{progress_byte, progress_feed, stopped_feed, stopped_memory}
use Rattle.carte_session.proofs.lines.Lines.take_byte.Goals as goal

pub returns-in_err-carry_out-clause-fed : goal.returns-in_err-carry_out-clause-fed
returns-in_err-carry_out-clause-fed g c = λ m k read p.
    let e = err_from_is_err_and c.from_residual.result c.from_residual.ensures.1 in
    rw (e.1, e.2) (stopped_feed g.M.Machine.answers g.M.Machine.ends (Unit {0}) m _ _ g.O.Sink.tells k _ _ read _ _ _ c.args.byte _ c.if-byte-eq10.true
    c.as_slice.ensures.value p c.in_err-carry_out.ensures.carried)

pub returns-in_err-push-clause-fed : goal.returns-in_err-push-clause-fed
returns-in_err-push-clause-fed g c = λ m k read p.
    let e = err_from_is_err_and c.from_residual-in_err-push.result c.from_residual-in_err-push.ensures.1 in
    rw (e.1, e.2) (stopped_memory g.M.Machine.answers g.M.Machine.ends m _ _ read _ _ c.args.byte p)

pub returns-in_ok-carry_out-clause-fed : goal.returns-in_ok-carry_out-clause-fed
returns-in_ok-carry_out-clause-fed g c = λ m k read p.
    let w = c.in_ok-carry_out.ensures.carried in
    progress_feed g.M.Machine.answers m _ _ g.O.Sink.tells k _ _ read _ _ _ w.0 _ c.args.byte c.if-byte-eq10.true
    c.clear.ensures.items c.as_slice.ensures.value p w.1 w.2

pub returns-in_ok-push-clause-fed : goal.returns-in_ok-push-clause-fed
returns-in_ok-push-clause-fed g c = λ m k read p.
    progress_byte g.M.Machine.answers m _ _ read _ _ _ c.args.byte c.if-byte-eq10.false c.in_ok-push.ensures.items p
