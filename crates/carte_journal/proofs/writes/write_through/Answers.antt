use Rattle.std.proofs.Common.{[], arith, length}
use Rattle.carte_io.proofs.Writes.{started, write_fails, write_synced}
use Rattle.carte_journal.proofs.writes.write_through.Goals as goal

pub returns-in_err-write_at-clause-any_moment : goal.returns-in_err-write_at-clause-any_moment
returns-in_err-write_at-clause-any_moment g c told settled =
    let s = g.D.Disk.story c.args.disk.now in
    write_fails s c.args.at (length c.args.piece.now) [] 0 _ _ s _ (omega arith) (started s settled) (c.in_err-write_at.ensures.err told)

pub returns-clause-any_moment : goal.returns-clause-any_moment
returns-clause-any_moment g c told settled =
    write_synced (g.D.Disk.story c.args.disk.now) (g.D.Disk.story c.write_at.new.self) (g.D.Disk.story c.sync.new.self) c.args.at c.args.piece.now c.sync.result
    settled (c.in_ok-write_at.ensures.ok told) (g.met.D.Disk.is_image c.write_at.new.self told) (c.sync.ensures.ok told) (c.sync.ensures.err told)
