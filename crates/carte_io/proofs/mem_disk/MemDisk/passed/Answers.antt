use Rattle.std.proofs.Common.{arith, length, ap}
use Rattle.carte_io.specs.MemDisks.{MemoryOfDisk, begun, passed-after_calls}
use Rattle.carte_io.proofs.mem_disk.MemDisk.passed.Goals as goal

pub returns : goal.returns
returns c = omega (
  arith,
  passed-after_calls (begun c.args.self.now.first) c.args.self.now.passed,
  ap (λ (d : MemoryOfDisk). length d.passed) c.self.view_is,
)
