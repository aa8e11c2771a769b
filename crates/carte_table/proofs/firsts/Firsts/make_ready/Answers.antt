use Rattle.std.proofs.Common.{refl, sym, subst}
use Rattle.carte_value.specs.Lists.{Begins}
use Rattle.carte_table.proofs.Steps.{became}
use Rattle.carte_table.proofs.firsts.Firsts.make_ready.Goals as goal

pub returns-then-can_become-clause-ok : goal.returns-then-can_become-clause-ok
returns-then-can_become-clause-ok g c = rw (c.new.ensures.items, c.measure.ensures, c.later.view_is) (became g.T.Keyed.key_of c.args.later c.args.self.now (c.can_become.ensures c.if-can_become.true))

pub returns-then-can_become-clause-front : goal.returns-then-can_become-clause-front
returns-then-can_become-clause-front g c = subst (λ xs. Begins xs c.measure.new.self) (sym (c.can_become.ensures c.if-can_become.true).empty) (c.measure.new.self, refl)
