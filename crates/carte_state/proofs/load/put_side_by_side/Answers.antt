use Rattle.std.proofs.Common.{subst, sym}
use Rattle.carte_state.specs.Folding.{IsFolded}
use Rattle.carte_state.specs.Parts.{bodies_in}
use Rattle.carte_state.specs.Versions.{Fours, Fresh}
use Rattle.carte_state.proofs.Beside.{all_behind}
use Rattle.carte_state.proofs.Reading.{parts_are}
use Rattle.carte_state.proofs.load.put_side_by_side.Goals as goal

pub returns-in-Ok : goal.returns-in-Ok
returns-in-Ok g c ps four some same each =
    subst (λ K. IsFolded Fresh (bodies_in ps) (Fours K)) (sym c.in-Ok.ensures)
    (all_behind ps c.args.parts.items four some (parts_are ps c.args.parts.items same each))
