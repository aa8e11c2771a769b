use Rattle.std.proofs.Common.{Some, sym, ◌∙◌, ap}
use Rattle.carte_formula.proofs.Signs.{corner_taken}
use Rattle.carte_formula.proofs.parser.operand.corner_at.Goals as goal

pub returns : goal.returns
returns c =
    corner_taken c.args.cell c.in-Some-Call.func c.in-Some-Call.done c.args.parser.now.stack.frames.items c.pop.new.self.frames.items
    (sym c.pop.ensures.frame ∙ c.in-Some-Call.is ∙ ap (λ f. Some f) c.in-Some-Call.field-0-is) c.pop.ensures.rest c.requires
