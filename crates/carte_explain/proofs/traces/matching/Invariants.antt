use Rattle.std.proofs.Common.{◌≡◌, take, None}
use Rattle.std.specs.Prelude.{find}
use Rattle.carte_book.specs.Book.{book_view}
use Rattle.carte_record.specs.declared.way.Way.TheVariants.{Verifying}
use Rattle.carte_explain.specs.Found.{digest_found, is_match}
use Rattle.carte_explain.proofs.traces.matching.Given as goal

abbrev pub invariant-loop-trace : goal.invariant-loop-trace
invariant-loop-trace l = find (is_match (digest_found Verifying (book_view l.book) l.finished) l.key l.task) (take l.trace-index l.traces) ≡ None
