use Rattle.std.proofs.Common.{drop, ap, ◌∙◌}
use Rattle.carte_record.specs.declared.batch.Batch.{Batch}
use Rattle.carte_sound.specs.LeadsTo.{empty_batch}
use Rattle.carte_plan.proofs.Lists.{empty_is}
use Rattle.carte_plan.proofs.cutting.take_part.Goals as goal

pub returns-clause-part : goal.returns-clause-part
returns-clause-part c =
    ap (λ (B : Batch). record B { values = c.replace.new.dest; seen = c.replace-2.new.dest }) c.replace-part.ensures.value
    ∙ (ap (λ vs. record c.args.batch.now { values = vs; seen = c.replace-2.new.dest }) (c.replace.ensures.after ∙ (c.in_ok-new_values.ensures {u = tt}))
    ∙ ap (λ ls. record c.args.batch.now { values = drop c.args.values c.args.batch.now.values; seen = ls }) (c.replace-2.ensures.after ∙ (c.in_ok-new_seen.ensures {u = tt})))

pub returns-clause-rest : goal.returns-clause-rest
returns-clause-rest c =
    ap (λ (B : Batch). record B { values = c.replace.result; seen = c.replace-2.result }) (c.replace-part.ensures.after ∙ empty_is c.new.result c.new.ensures)
    ∙ (ap (λ vs. record empty_batch { values = vs; seen = c.replace-2.result }) (c.replace.ensures.value ∙ ap (λ (B : Batch). B.values) c.replace-part.ensures.value)
    ∙ ap (λ ls. record empty_batch { values = c.args.batch.now.values; seen = ls }) (c.replace-2.ensures.value ∙ ap (λ (B : Batch). B.seen) c.replace-part.ensures.value))
