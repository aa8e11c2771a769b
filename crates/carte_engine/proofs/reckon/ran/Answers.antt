use Rattle.std.proofs.Common.{◌∙◌, ap, sym, subst}
use Rattle.carte_value.specs.Truths.{Among, IsListOf}
use Rattle.carte_note.specs.Right.{ran_in}
use Rattle.carte_engine.specs.Sorted.{sorted}
use Rattle.carte_engine.proofs.reckon.ran.Goals as goal

pub returns : goal.returns
returns c =
    subst (IsListOf (Among (ran_in c.args.finished.now))) (sym c.of.ensures)
    (subst (λ ks. IsListOf (Among ks) (sorted c.each_once.result.items)) (c.in_ok-keys.ensures {u = tt} ∙ ap ran_in c.as_slice.ensures) c.each_once.ensures.same)
