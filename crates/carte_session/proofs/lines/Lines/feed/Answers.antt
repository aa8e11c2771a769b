use Rattle.std.proofs.Common.{arith, refl, ◌++◌, take}
use Rattle.std.proofs.lemmas.Result.{err_from_is_err_and}
use Rattle.carte_session.proofs.SessionLemmas.{over, stopped_item}
use Rattle.carte_session.proofs.lines.Lines.feed.Goals as goal

pub returns-in_err-take_byte-clause-fed : goal.returns-in_err-take_byte-clause-fed
returns-in_err-take_byte-clause-fed g c = λ m k read p.
    let e = err_from_is_err_and c.from_residual.result c.from_residual.ensures.1 in
    let bytes = c.args.bytes.now in
    let i = c.loop-byte.byte-index in
    rw (e.1, e.2) (stopped_item g.M.Machine.answers g.M.Machine.ends m _ (over g.O.Sink.tells k (g.O.Sink.state c.take_byte.new.out)) read bytes i _ _ (omega (arith, c.loop-byte-test.true)) refl
    (c.in_err-take_byte.ensures.fed m k (read ++ take i bytes) (c.loop-byte.invariant.fed m k read p)))
