use Rattle.std.proofs.Common.{List, [], ◌∷◌, ◌++◌, ap, ◌∙◌}
use Rattle.carte_record.specs.declared.batch.Batch.{Batch}
use Rattle.carte_compact.proofs.batches.only.Goals as goal

pub returns : goal.returns
returns c =
    let first : List Batch = c.args.batch ∷ [] in
    (c.in_ok-push.ensures {u = tt}).items ∙ ap (λ bs. bs ++ first) (c.in_ok-batches.ensures {u = tt}).items
