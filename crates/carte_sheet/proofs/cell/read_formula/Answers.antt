use Rattle.std.proofs.Common.{Ok, refl}
use Rattle.carte_tree.specs.Code.{tree_of}
use Rattle.carte_book.specs.Book.{rule}
use Rattle.carte_sheet.proofs.cell.read_formula.Goals as goal

pub returns-in-Ok-add_rule : goal.returns-in-Ok-add_rule
returns-in-Ok-add_rule c = λ m h new.
    let e = tree_of c.in-Ok.expr in
    (rule e, (Ok e, c.in-Ok.ensures.read, tt, refl), (c.in-Ok-add_rule.ensures.takes m h (λ sheet. new)).1)
