use Rattle.std.proofs.Common.{ap}
use Rattle.carte_record.proofs.Unmarking.{marked_view}
use Rattle.carte_record.proofs.kept.Kept.mark.Goals as goal

pub returns-clause-view : goal.returns-clause-view
returns-clause-view c =
    let old = c.args.self.now in
    marked_view old (record old { entries = c.mark_each.new.self }) c.args.keys.now (ap (λ es. record old { entries = es }) c.mark_each.ensures)
