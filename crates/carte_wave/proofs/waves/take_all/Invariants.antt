use Rattle.std.proofs.Common.{◌≡◌, length}
use Rattle.carte_bench.specs.Held.{spots_of, book_of}
use Rattle.carte_wave.proofs.Taken.{IsTaking, Gathers}
use Rattle.carte_wave.proofs.waves.take_all.Given as goal

abbrev pub invariant-keys : goal.invariant-keys
invariant-keys g l = record {
  taking : IsTaking (spots_of l.fn.bench) l.fn.keys.keys (spots_of l.bench) l.keys.keys;
  gathers : Gathers (spots_of l.fn.bench) l.fn.keys.keys l.keys.keys l.jobs.items;
  book : book_of l.bench ≡ book_of l.fn.bench;
}

abbrev pub decreases-keys : goal.decreases-keys
decreases-keys g l = length l.keys.keys
