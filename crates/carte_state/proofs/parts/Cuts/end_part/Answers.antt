use Rattle.std.proofs.Common.{◌∙◌, ap, refl}
use Rattle.carte_state.specs.Parts.{bodies_in}
use Rattle.carte_state.proofs.Reading.{bodies_end}
use Rattle.carte_state.proofs.parts.Cuts.end_part.Goals as goal

pub returns-clause-bodies : goal.returns-clause-bodies
returns-clause-bodies c =
    ap bodies_in (rw c.in_ok-push.was at c.push.ensures.items)
    ∙ bodies_end c.args.self.now.parts.items (record { number = c.len-number.result; bodies = c.replace-bodies.result })
    ∙ rw c.replace-bodies.ensures.value refl
