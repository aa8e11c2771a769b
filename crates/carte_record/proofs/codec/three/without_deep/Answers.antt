use Rattle.std.proofs.Common.{ap, ◌∙◌}
use Rattle.std.proofs.lemmas.Result.{IfOk-weaker}
use Rattle.carte_record.specs.declared.batch.Batch.{Batch}
use Rattle.carte_record.specs.ThreeLaws.{batch_three}
use Rattle.carte_record.proofs.codec.three.without_deep.Goals as goal

pub returns : goal.returns
returns c = IfOk-weaker c.of_parts.result _ _ (λ batch is. is ∙ ap (λ deep. let b : Batch = record (batch_three c.args.parts) { deep = deep } in b) c.new-none.ensures) c.of_parts.ensures
