use Rattle.std.proofs.Common.{◌≡◌, sym, ap, ◌∙◌, subst}
use Rattle.std.specs.Prelude.{IfOk}
use Rattle.carte_record.specs.Kept.{kept_view}
use Rattle.carte_record.specs.Folds.{started, without}
use Rattle.carte_record.proofs.Gone.{without_nothing}
use Rattle.carte_record.proofs.kept.Kept.left_by.Goals as goal

pub returns-in-GoOn : goal.returns-in-GoOn
returns-in-GoOn c = subst (λ s. IfOk c.without.result (λ left. kept_view left ≡ without c.args.batch.now.gone (started s (kept_view c.args.self.now)))) (sym c.in-GoOn.is) c.without.ensures

pub returns-in-Cleared : goal.returns-in-Cleared
returns-in-Cleared c =
    let gone = c.args.batch.now.gone in
    c.empty.ensures ∙ (sym (without_nothing gone) ∙ ap (λ s. without gone (started s (kept_view c.args.self.now))) (sym c.in-Cleared.is))
