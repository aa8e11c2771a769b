use Rattle.carte_state.proofs.load.take_body.Goals as goal

pub returns-in-Ok : goal.returns-in-Ok
returns-in-Ok c = c.take_before.ensures c.args.body c.in-Ok.ensures
