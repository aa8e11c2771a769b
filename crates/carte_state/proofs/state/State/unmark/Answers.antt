use Rattle.std.proofs.Common.{ap, ◌∙◌}
use Rattle.carte_record.specs.declared.kept.Kept.{Kept}
use Rattle.carte_state.specs.States.{Stand}
use Rattle.carte_state.proofs.state.State.unmark.Goals as goal

pub returns : goal.returns
returns c before can is =
    let old : Stand = c.args.self.now in
    let kept = c.unmark.ensures before.kept can (ap (λ (s : Stand). s.kept) (c.self.view_is ∙ is)) in
    ap (λ (K : Kept). record { journal = c.self.inside.journal; kept = K; one = c.self.inside.one }) kept
    ∙ ap (λ (s : Stand). record { journal = s.journal; kept = before.kept; one = s.one }) (c.self.view_is ∙ is)
