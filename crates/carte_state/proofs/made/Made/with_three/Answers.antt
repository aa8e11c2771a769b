use Rattle.std.proofs.Common.{sym, ◌∙◌}
use Rattle.carte_state.specs.Parts.{made_view}
use Rattle.carte_state.proofs.Reading.{behind_four, next_three, no_begin}
use Rattle.carte_state.proofs.made.Made.with_three.Goals as goal

pub returns-then-is_now : goal.returns-then-is_now
returns-then-is_now c = behind_four (made_view c.args.self) c.args.batch (sym c.is_now.ensures ∙ c.if-is_now.true)

pub returns-in-Some : goal.returns-in-Some
returns-in-Some c =
    next_three (made_view c.args.self) c.in-Some.kept c.args.batch c.before_with.result (sym c.is_now.ensures ∙ c.if-is_now.false) c.in-Some.ensures c.before_with.ensures

pub returns-in-None : goal.returns-in-None
returns-in-None c = no_begin (made_view c.args.self) c.args.batch c.in-None.ensures
