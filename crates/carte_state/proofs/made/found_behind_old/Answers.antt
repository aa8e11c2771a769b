use Rattle.carte_state.proofs.made.found_behind_old.Goals as goal

pub returns-in-Cleared : goal.returns-in-Cleared
returns-in-Cleared c K = (c.in-Cleared.is, c.empty.ensures)
