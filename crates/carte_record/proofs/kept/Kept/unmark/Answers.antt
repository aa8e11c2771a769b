use Rattle.std.proofs.Common.{ap}
use Rattle.carte_record.proofs.Unmarking.{marked_back}
use Rattle.carte_record.proofs.kept.Kept.unmark.Goals as goal

pub returns : goal.returns
returns c lists can is =
    let old = c.args.self.now in
    marked_back old (record old { entries = c.mark_each.new.self }) lists c.args.keys.now can is (ap (λ es. record old { entries = es }) c.mark_each.ensures)
