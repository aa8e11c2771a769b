use Rattle.std.proofs.Common.{ap, ◌∙◌}
use Rattle.carte_record.specs.Folds.{with_marks}
use Rattle.carte_record.specs.Kept.{kept_view}
use Rattle.carte_engine.proofs.Marking.{apart_made}
use Rattle.carte_engine.proofs.basis.apart.Goals as goal

pub returns : goal.returns
returns c b begun =
    apart_made (kept_view c.args.kept.now) b c.args.begun c.mark.new.self begun
    (c.mark.ensures.view ∙ ap (λ K. with_marks K c.args.begun.marks) (c.in_ok-made.ensures {u = tt}))
