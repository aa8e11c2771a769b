use Rattle.std.proofs.Common.{ap, arith}
use Rattle.carte_journal.specs.Regions.{Planned}
use Rattle.carte_journal.proofs.Regions.{length-region_of}
use Rattle.carte_journal.proofs.Rewritings.{region_end_is}
use Rattle.carte_journal.proofs.region.Region.length.Goals as goal

pub returns : goal.returns
returns c bodies is =
    let at_is = ap (λ (p : Planned). p.at) c.self.view_is in
    omega (arith, at_is, c.needed.ensures.needed, region_end_is c.args.self.now bodies is, length-region_of c.args.self.now.at bodies)
