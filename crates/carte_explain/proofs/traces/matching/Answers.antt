use Rattle.std.proofs.Common.{sym, ◌∙◌}
use Rattle.carte_book.specs.Book.{book_view}
use Rattle.carte_record.specs.declared.way.Way.TheVariants.{Verifying}
use Rattle.carte_explain.specs.Found.{digest_found, is_match}
use Rattle.carte_explain.proofs.Finding.{found_here, missed_here}
use Rattle.carte_explain.proofs.traces.matching.Goals as goal

pub returns-then-is_match : goal.returns-then-is_match
returns-then-is_match c = found_here (is_match (digest_found Verifying (book_view c.args.book.now) c.args.finished.now) c.args.key.now c.args.task.now) c.args.traces.now c.loop-trace.trace-index c.trace-item.result c.loop-trace.invariant c.loop-trace-test.true c.trace-item.is (sym c.is_match.ensures ∙ c.if-is_match.true)

pub loop-trace-preserved : goal.loop-trace-preserved
loop-trace-preserved c = missed_here (is_match (digest_found Verifying (book_view c.args.book.now) c.args.finished.now) c.args.key.now c.args.task.now) c.args.traces.now c.loop-trace.trace-index c.trace-item.result c.loop-trace.invariant c.loop-trace-test.true c.trace-item.is (sym c.is_match.ensures ∙ c.if-is_match.false)
