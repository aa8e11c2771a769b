use Rattle.std.proofs.Common.{List, ◌++◌, Some, subst, sym}
use Rattle.std.specs.Prelude.{OnOk}
use Rattle.carte_record.specs.declared.batch.Batch.{Batch}
use Rattle.carte_state.specs.Columns.{AreColumns, four_in}
use Rattle.carte_state.proofs.Beside.{found_none}
use Rattle.carte_state.proofs.columns.Columns.add_kind.Goals as goal

pub returns-in-One : goal.returns-in-One
returns-in-One c Bs are = subst (λ A. AreColumns (Bs ++ four_in (Some A)) c.args.self.now) (sym c.in-One.is) (found_none c.args.self.now Bs are)

pub returns-in-Three : goal.returns-in-Three
returns-in-Three c Bs are = subst (λ A. AreColumns (Bs ++ four_in (Some A)) c.args.self.now) (sym c.in-Three.is) (found_none c.args.self.now Bs are)

pub returns : goal.returns
returns c =
    subst (λ A. OnOk c.add.result ((Bs : List Batch) → AreColumns Bs c.args.self.now → AreColumns (Bs ++ four_in (Some A)) c.add.new.self))
    (sym c.in-Four.is) c.add.ensures
