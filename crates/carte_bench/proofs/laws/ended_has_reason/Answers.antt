use Rattle.std.proofs.Common.{refl}
use Rattle.carte_bench.specs.Held.{spots_of, book_of}
use Rattle.carte_bench.proofs.Whys.{ended_has_reason}
use Rattle.carte_bench.proofs.laws.ended_has_reason.Goals as goal

pub returns : goal.returns
returns g c core ended k open_k =
    ended_has_reason g.J.Job.fits (book_of c.args.bench.now) (spots_of c.args.bench.now) core ended c.args.bench.now.slots.entries (λ q. refl) k open_k
