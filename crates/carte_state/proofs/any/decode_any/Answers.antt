use Rattle.std.proofs.Common.{sym, ◌∙◌}
use Rattle.std.proofs.lemmas.Bool.{eqb-false, eqb-true}
use Rattle.carte_state.specs.Versions.{first_byte}
use Rattle.carte_state.proofs.any.decode_any.Goals as goal

pub returns-then-is_one : goal.returns-then-is_one
returns-then-is_one c = c.read_one.ensures (eqb-true (first_byte c.args.bytes.now) 1 (sym c.is_one.ensures ∙ c.if-is_one.true))

pub returns-then-is_three : goal.returns-then-is_three
returns-then-is_three c = c.read_three.ensures (eqb-true (first_byte c.args.bytes.now) 3 (sym c.is_three.ensures ∙ c.if-is_three.true))

pub returns : goal.returns
returns c = c.read_four.ensures (eqb-false (first_byte c.args.bytes.now) 1 (sym c.is_one.ensures ∙ c.if-is_one.false)) (eqb-false (first_byte c.args.bytes.now) 3 (sym c.is_three.ensures ∙ c.if-is_three.false))
