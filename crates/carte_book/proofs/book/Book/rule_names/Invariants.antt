use Rattle.carte_book.proofs.RuleNames.{IsSoFar}
use Rattle.carte_book.proofs.book.Book.rule_names.Given as goal

abbrev pub invariant-loop-name : goal.invariant-loop-name
invariant-loop-name l = IsSoFar l.fn.self.items l.names l.name-iterator
