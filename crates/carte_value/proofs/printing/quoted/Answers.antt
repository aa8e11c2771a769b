use Rattle.carte_value.proofs.Escapes.{quoted_more}
use Rattle.carte_value.proofs.printing.quoted.Goals as goal

pub loop-c-preserved : goal.loop-c-preserved
loop-c-preserved c = quoted_more _ _ _ _ c.loop-c.invariant c.in_ok-escape.ensures
