use Rattle.std.proofs.Common.{List, ◌++◌, subst, sym}
use Rattle.std.specs.Prelude.{OnOk}
use Rattle.carte_record.specs.declared.batch.Batch.{Batch}
use Rattle.carte_state.specs.Columns.{AreColumns, four_in}
use Rattle.carte_state.proofs.Beside.{found_none}
use Rattle.carte_state.proofs.columns.Columns.add_any.Goals as goal

pub returns-in-Some : goal.returns-in-Some
returns-in-Some c =
    subst (λ o. OnOk c.add_kind.result ((Bs : List Batch) → AreColumns Bs c.args.self.now → AreColumns (Bs ++ four_in o) c.add_kind.new.self))
    (sym c.in-Some.is) c.add_kind.ensures

pub returns-in-None : goal.returns-in-None
returns-in-None c Bs are = subst (λ o. AreColumns (Bs ++ four_in o) c.args.self.now) (sym c.in-None.is) (found_none c.args.self.now Bs are)
