use Rattle.std.proofs.Common.{List, ◌++◌, subst, sym}
use Rattle.std.specs.Prelude.{OnOk}
use Rattle.carte_record.specs.declared.batch.Batch.{Batch}
use Rattle.carte_state.specs.Columns.{AreColumns, fours_at}
use Rattle.carte_state.proofs.columns.Columns.add_part.Goals as goal

pub returns-in-Ok : goal.returns-in-Ok
returns-in-Ok c =
    subst (λ part. OnOk c.add_all.result ((Bs : List Batch) → AreColumns Bs c.args.self.now → AreColumns (Bs ++ fours_at part) c.add_all.new.self))
    (sym c.in-Ok.is) c.add_all.ensures
