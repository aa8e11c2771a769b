use Rattle.std.proofs.Common.{◌≡◌, map, take}
use Rattle.carte_book.specs.Book.{book_view}
use Rattle.carte_sound_one.specs.Up.{raised_trace}
use Rattle.carte_migrate.proofs.traces.raised_traces.Given as goal

abbrev pub invariant-loop-trace : goal.invariant-loop-trace
invariant-loop-trace l = l.list ≡ map (raised_trace (book_view l.tasks.book.now)) (take l.trace-index l.trace-items)
