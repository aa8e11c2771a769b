use Rattle.std.proofs.Common.{◌≡◌, map, take}
use Rattle.carte_book.specs.Book.{book_view}
use Rattle.carte_sound_one.specs.Up.{raised_entry}
use Rattle.carte_migrate.proofs.entries.raised_entries.Given as goal

abbrev pub invariant-loop-entry : goal.invariant-loop-entry
invariant-loop-entry l = l.list ≡ map (raised_entry (book_view l.book)) (take l.entry-index l.entry-items)
