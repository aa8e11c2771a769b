use Rattle.std.proofs.Common.{◌+◌, ◌≤◌, ◌∙◌, ap, arith, drop, length, sym, take}
use Rattle.carte_io.specs.Disk.{Story}
use Rattle.carte_journal.proofs.Walks.{whole_here}
use Rattle.carte_journal.proofs.load.next_body.Goals as goal

pub returns-in_ok-bytes-in-Whole-clause-read : goal.returns-in_ok-bytes-in-Whole-clause-read
returns-in_ok-bytes-in-Whole-clause-read g c told =
    let e = rw c.in-Whole.is at c.in_ok-read_frame.ensures in
    let size = c.in-Whole.size in
    let file = (g.D.Disk.story c.args.disk.now).now.reads in
    let in_file : c.args.gate + 6 + size ≤ length file = omega (arith, e.fits.0, c.requires.len told) in
    whole_here c.args.limit c.args.gate size file _ (sym (e.frame told)) in_file e.fits.1
    (c.in_ok-bytes-in-Whole.ensures.bytes told ∙ ap (λ (s : Story). take size (drop (c.args.gate + 5) s.now.reads)) (e.same told))
