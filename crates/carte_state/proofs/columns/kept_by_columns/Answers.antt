use Rattle.std.proofs.lemmas.Result.{IfOk-weaker}
use Rattle.carte_state.specs.Columns.{fours_of}
use Rattle.carte_state.proofs.columns.kept_by_columns.Goals as goal

pub returns : goal.returns
returns g c = IfOk-weaker c.kept.result _ _ (λ kept is. is (fours_of c.args.parts.items) (c.in_ok-columns.ensures {u = tt})) c.kept.ensures
