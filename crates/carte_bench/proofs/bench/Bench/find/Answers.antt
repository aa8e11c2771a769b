use Rattle.carte_bench.specs.Held.{spots_of}
use Rattle.carte_bench.proofs.Slots.{found_at}
use Rattle.carte_bench.proofs.bench.Bench.find.Goals as goal

pub returns : goal.returns
returns g c = let e = c.in-Some.ensures in found_at c.args.self.now.slots.entries c.args.name.now c.in-Some.held.now c.in-Some.at (spots_of c.args.self.now c.args.name.now) c.in-Some.slot.now e.key e.value e.entry
