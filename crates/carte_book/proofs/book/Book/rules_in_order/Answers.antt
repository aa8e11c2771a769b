use Rattle.std.proofs.lemmas.List.Sorted.{All-permutation}
use Rattle.carte_book.specs.Order.{IsFormulaOf}
use Rattle.carte_book.proofs.Ordered.{names_apart, seen_in_order}
use Rattle.carte_book.proofs.book.Book.rules_in_order.Goals as goal

pub in_order-requires : goal.in_order-requires
in_order-requires c = names_apart c.args.self.now.items.entries c.in_ok-rules.field-0.items c.in_ok-rules.ensures.unique c.in_ok-rules.ensures.rules

pub returns-clause-rules : goal.returns-clause-rules
returns-clause-rules c = seen_in_order c.args.self.now c.in_ok-rules.field-0.items c.in_order.result.items c.in_ok-rules.ensures.unique c.in_ok-rules.ensures.rules c.in_order.ensures.same c.in_order.ensures.sorted

pub returns-clause-formulas : goal.returns-clause-formulas
returns-clause-formulas c = All-permutation IsFormulaOf c.in_ok-rules.field-0.items c.in_order.result.items c.in_order.ensures.same c.in_ok-rules.ensures.formulas
