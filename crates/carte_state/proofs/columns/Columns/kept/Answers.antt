use Rattle.carte_state.proofs.Beside.{beside_is}
use Rattle.carte_state.proofs.columns.Columns.kept.Goals as goal

pub returns : goal.returns
returns g c Bs are =
    let told = c.in_ok-apart.ensures {u = tt} in
    let apart = c.in_ok-apart.apart in
    beside_is Bs c.args.self are apart.0 apart.1 apart.2 told.entries told.verifying told.others c.beside.result c.beside.ensures
