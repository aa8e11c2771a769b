use Rattle.carte_state.specs.Parts.{IsFoundIn}
use Rattle.carte_state.proofs.Reading.{pairs_end}
use Rattle.carte_state.proofs.parts.read_part.Goals as goal

pub loop-body-preserved : goal.loop-body-preserved
loop-body-preserved g c =
    rw (c.in_ok-put.ensures {u = tt}) (pairs_end IsFoundIn c.loop-body.yielded c.loop-body.founds.items c.in-Some.body c.in_ok-found.found c.loop-body.invariant c.in_ok-found.ensures)
