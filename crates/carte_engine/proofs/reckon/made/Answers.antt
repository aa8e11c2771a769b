use Rattle.std.proofs.Common.{sym}
use Rattle.carte_engine.proofs.Valued.{never_lost}
use Rattle.carte_engine.proofs.reckon.made.Goals as goal

pub unreachable-requires : goal.unreachable-requires
unreachable-requires c = never_lost c.args.finished.now c.args.name.now c.requires (sym c.in-None.ensures)
