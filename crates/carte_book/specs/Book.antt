-- Books, and the one that stands in memory.
use Rattle.std.specs.FinMap.{from_entries}
use Rattle.indexmap.specs.IndexMap.{hasher_of}
use Rattle.carte_name.specs.declared.seeded.Seeded.{Seeded}
use Rattle.carte_book.specs.declared.book.Book.{Book as CodeBook}
pub use Rattle.carte_book.specs.Content.{Item, input, rule, Book, default_of, or_default, content, valued, settled, val, rules_among, rules_of, clean, formula_of, item_view, entries_view}

abbrev pub book_view : CodeBook → Book
book_view b = record { kind = b.kind; items = from_entries (entries_view b.items.entries) }

-- the hash that its map is made with
abbrev pub hasher_in : CodeBook → Seeded
hasher_in b = hasher_of b.items
