use Rattle.std.proofs.Common.{ap, sym, ◌∙◌}
use Rattle.carte_name.specs.Names.{name_eq}
use Rattle.carte_note.specs.Lists.{is_of_key}
use Rattle.carte_note.proofs.Before.{found_here, missed_here}
use Rattle.carte_note.proofs.list.look.Goals as goal

pub returns-then-eq : goal.returns-then-eq
returns-then-eq c = found_here (is_of_key c.args.key.now) c.args.finished.now c.loop-one.one-index c.one-item.result c.loop-one.invariant c.loop-one-test.true c.one-item.is (ap (name_eq c.args.key.now) (sym c.key.ensures) ∙ (sym c.eq.ensures ∙ c.if-eq.true))

pub loop-one-preserved : goal.loop-one-preserved
loop-one-preserved c = missed_here (is_of_key c.args.key.now) c.args.finished.now c.loop-one.one-index c.one-item.result c.loop-one.invariant c.loop-one-test.true c.one-item.is (ap (name_eq c.args.key.now) (sym c.key.ensures) ∙ (sym c.eq.ensures ∙ c.if-eq.false))
