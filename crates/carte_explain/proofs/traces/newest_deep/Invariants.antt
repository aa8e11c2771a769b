use Rattle.std.proofs.Common.{◌≡◌, take, option_copied}
use Rattle.carte_book.specs.Book.{book_view}
use Rattle.carte_table.specs.Lookups.{find_last}
use Rattle.carte_explain.specs.Found.{is_deep_with}
use Rattle.carte_explain.proofs.traces.newest_deep.Given as goal

abbrev pub invariant-loop-trace : goal.invariant-loop-trace
invariant-loop-trace l = option_copied l.last ≡ find_last (is_deep_with l.told (book_view l.book) l.key) (take l.trace-index l.traces)
