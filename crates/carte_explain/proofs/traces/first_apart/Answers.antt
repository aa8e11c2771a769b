use Rattle.std.proofs.Common.{sym, ◌∙◌}
use Rattle.carte_book.specs.Book.{book_view}
use Rattle.carte_explain.specs.Found.{digest_found, is_apart}
use Rattle.carte_explain.proofs.Finding.{found_here, missed_here}
use Rattle.carte_explain.proofs.traces.first_apart.Goals as goal

pub returns-then-is_apart : goal.returns-then-is_apart
returns-then-is_apart c = found_here (is_apart (digest_found c.args.way (book_view c.args.book.now) c.args.finished.now)) c.args.links.now c.loop-link.link-index c.link-item.result c.loop-link.invariant c.loop-link-test.true c.link-item.is (sym c.is_apart.ensures ∙ c.if-is_apart.true)

pub loop-link-preserved : goal.loop-link-preserved
loop-link-preserved c = missed_here (is_apart (digest_found c.args.way (book_view c.args.book.now) c.args.finished.now)) c.args.links.now c.loop-link.link-index c.link-item.result c.loop-link.invariant c.loop-link-test.true c.link-item.is (sym c.is_apart.ensures ∙ c.if-is_apart.false)
