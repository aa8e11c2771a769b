use Rattle.carte_state.proofs.state.State.apply.Goals as goal

pub returns : goal.returns
returns g c = c.put.ensures
