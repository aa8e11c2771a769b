use Rattle.std.proofs.Common.{◌∙◌, ap}
use Rattle.carte_record.specs.declared.batch.Batch.{Batch}
use Rattle.carte_state.proofs.Beside.{columns_end, others_left}
use Rattle.carte_state.proofs.columns.Columns.add.Goals as goal

pub returns : goal.returns
returns c Bs are =
    let begun = c.in_ok-entries.ensures {u = tt} in
    let also = c.in_ok-verifying.ensures {u = tt} in
    let front = c.with_entries-entries.ensures in
    let next = c.with_verifying-verifying.ensures in
    let put = c.in_ok-put.ensures {u = tt} in
    columns_end Bs c.args.batch c.with_entries-entries.result c.with_verifying-verifying.result c.with_verifying-verifying.new.batch c.args.self.now c.put.new.self are
    (record {
      start = ap (λ (B : Batch). B.start) front.column ∙ begun.0;
      gone = ap (λ (B : Batch). B.gone) front.column ∙ begun.1;
      entries = ap (λ (B : Batch). B.entries) front.column;
      stale = ap (λ (B : Batch). B.stale) front.column;
    })
    (record {
      start = ap (λ (B : Batch). B.start) next.column ∙ also.0;
      gone = ap (λ (B : Batch). B.gone) next.column ∙ also.1;
      verifying = ap (λ (B : Batch). B.verifying) next.column ∙ ap (λ (B : Batch). B.verifying) front.left;
    })
    (others_left c.args.batch c.with_entries-entries.new.batch c.with_verifying-verifying.new.batch _ _ _ front.left next.left)
    put.entries put.verifying put.others
