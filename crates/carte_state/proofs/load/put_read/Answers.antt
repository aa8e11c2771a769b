use Rattle.carte_state.proofs.load.put_read.Goals as goal

pub returns-then-can_cut : goal.returns-then-can_cut
returns-then-can_cut g c ps cut same each =
    let told = c.can_cut.ensures c.if-can_cut.true in
    c.put_side_by_side.ensures ps (rw c.as_slice.ensures.value at told.1) (cut told.0) same each
