use Rattle.std.proofs.Common.{take}
use Rattle.carte_engine.proofs.Writing.{WroteTo}
use Rattle.carte_engine.proofs.engine.Engine.write_each.Given as goal

abbrev pub invariant-loop-next : goal.invariant-loop-next
invariant-loop-next g l =
    WroteTo g.D.Disk.tells (g.D.Disk.story l.fn.disk) (g.D.Disk.story l.disk) (g.D.Disk.faults l.fn.disk) (g.D.Disk.faults l.disk) l.fn.self l.batches (take l.next-index l.batches) l.self-inside.state.journal
