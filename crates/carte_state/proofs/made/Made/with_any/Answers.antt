use Rattle.carte_state.proofs.made.Made.with_any.Goals as goal

pub returns-in-One : goal.returns-in-One
returns-in-One c = rw c.in-One.is c.with_one.ensures

pub returns-in-Three : goal.returns-in-Three
returns-in-Three c = rw c.in-Three.is c.with_three.ensures

pub returns-in-Four : goal.returns-in-Four
returns-in-Four c = rw c.in-Four.is c.with_four.ensures
