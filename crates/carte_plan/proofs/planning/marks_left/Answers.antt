use Rattle.std.proofs.Common.{◌∙◌, take}
use Rattle.carte_note.specs.Right.{finishes_of}
use Rattle.carte_plan.proofs.Leading.{same_left}
use Rattle.carte_plan.proofs.Pieces.{if_ok}
use Rattle.carte_plan.proofs.planning.marks_left.Goals as goal

pub returns : goal.returns
returns c =
    let x = c.args.begun.now in
    if_ok c.left_of.result
    (λ left is. is ∙ same_left (finishes_of (take c.args.count c.args.finished.now)) x.marks c.in_ok-gone.gone x.gone (c.in_ok-gone.ensures {u = tt}))
    c.left_of.ensures
