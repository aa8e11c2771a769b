use Rattle.carte_book.proofs.Listed.{IsListed}
use Rattle.carte_book.proofs.book.Book.rules.Given as goal

abbrev pub invariant-loop-name : goal.invariant-loop-name
invariant-loop-name l = IsListed l.fn.self.kind l.fn.self.items.entries l.rules.items l.name-iterator
