use Rattle.std.proofs.Common.{drop}
use Rattle.carte_book.proofs.Digests.{Feeds}
use Rattle.carte_book.proofs.digest.feed_rules.Given as goal

abbrev pub invariant-loop-rule : goal.invariant-loop-rule
invariant-loop-rule l = Feeds l.fn.hasher l.hasher l.bytes.items l.rules (drop l.rule-index l.rules)
