use Rattle.std.proofs.Common.{◌+◌, ap, arith, refl}
use Rattle.std.proofs.lemmas.Result.{on_ok_weaker}
use Rattle.carte_io.specs.Disk.{Story}
use Rattle.carte_io.proofs.Images.{throughout_then}
use Rattle.carte_journal.specs.Frames.{piece_of}
use Rattle.carte_journal.proofs.Commits.{frame_adds, gate_adds, gate_ready, staged_settled}
use Rattle.carte_journal.proofs.writes.put_frame.Goals as goal

pub returns-in_err-write_piece-clause-any_moment : goal.returns-in_err-write_piece-clause-any_moment
returns-in_err-write_piece-clause-any_moment g c told limit bank bodies ready fits =
    frame_adds limit bank c.args.gate bodies c.args.frame.now (g.D.Disk.story c.args.disk.now) ready (piece_of c.args.frame.now) _ _ (omega arith)
    (c.write_piece.ensures.any_moment told ready.settled)

pub returns-clause-ok : goal.returns-clause-ok
returns-clause-ok g c told limit bank bodies ready fits =
    on_ok_weaker c.open_gate.result
    (gate_ready limit bank c.args.gate bodies c.args.frame.now (g.D.Disk.story c.args.disk.now) ready (piece_of c.args.frame.now) refl
    _ (c.in_ok-write_piece.ensures.ok told) c.write_piece.ensures.short c.write_piece.ensures.other fits _)
    (c.open_gate.ensures.ok told)

pub returns-clause-any_moment : goal.returns-clause-any_moment
returns-clause-any_moment g c told limit bank bodies ready fits =
    let s = g.D.Disk.story c.args.disk.now in
    let u = g.D.Disk.story c.write_piece.new.disk in
    let staged = c.in_ok-write_piece.ensures.ok told in
    throughout_then s u (g.D.Disk.story c.open_gate.new.disk) _
    (frame_adds limit bank c.args.gate bodies c.args.frame.now s ready (piece_of c.args.frame.now) (s.now.passed + 4) u (omega arith)
    (c.write_piece.ensures.any_moment told ready.settled))
    (gate_adds limit bank c.args.gate bodies c.args.frame.now s ready (piece_of c.args.frame.now) refl u staged
    c.write_piece.ensures.short c.write_piece.ensures.other fits (s.now.passed + 4) _ (omega (arith, ap (λ (v : Story). v.now.passed) staged))
    (c.open_gate.ensures.any_moment told
    (staged_settled limit bank c.args.gate bodies c.args.frame.now s ready (piece_of c.args.frame.now) refl u staged c.write_piece.ensures.short c.write_piece.ensures.other fits)))
