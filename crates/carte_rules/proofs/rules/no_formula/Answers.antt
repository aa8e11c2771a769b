use Rattle.std.proofs.Common.{Err, refl}
use Rattle.carte_book.specs.declared.fault.BookFault.TheVariants.{Formula}
use Rattle.carte_rules.proofs.Keys.{text_rule}
use Rattle.carte_rules.proofs.rules.no_formula.Goals as goal

pub returns-in-Ok : goal.returns-in-Ok
returns-in-Ok c = λ m text h reads cause.
    let j = c.in-Ok.name in
    text_rule c.args.key.now j text m (Err (Formula j c.args.fault)) (c.in-Ok.ensures.gives m h) (Err c.args.fault, reads, c.requires, refl)
