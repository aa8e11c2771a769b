use Rattle.std.proofs.Common.{rules}
use Rattle.carte_book.proofs.Listed.{sorted_rises}
use Rattle.carte_book.proofs.order.in_order.Goals as goal

pub returns-then-not-are_ascending-clause-sorted : goal.returns-then-not-are_ascending-clause-sorted
returns-then-not-are_ascending-clause-sorted c =
    sorted_rises c.args.rules.items c.sort_unstable_by.new.self.items c.requires c.sort_unstable_by.ensures.permutation c.sort_unstable_by.ensures.sorted (λ a r q k. search rules)
