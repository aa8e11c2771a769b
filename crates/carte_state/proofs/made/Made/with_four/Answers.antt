use Rattle.carte_state.specs.Parts.{made_view}
use Rattle.carte_state.proofs.Reading.{next_four}
use Rattle.carte_state.proofs.made.Made.with_four.Goals as goal

pub returns-in-Some : goal.returns-in-Some
returns-in-Some c = next_four (made_view c.args.self) c.in-Some.kept c.args.batch c.now_with.result c.in-Some.ensures c.now_with.ensures
