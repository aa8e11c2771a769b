-- What a book knows of its rules.
use Rattle.std.specs.Prelude.{ℕ, ◌≡◌, List, Option, Some}
use Rattle.std.specs.FinMap.{from_entries}
use Rattle.carte_name.specs.declared.kind.Kind.{Kind}
use Rattle.carte_value.specs.declared.digest.Digest.{Digest}
use Rattle.carte_book.specs.declared.book.Item.{Item as CodeItem}
use Rattle.carte_book.specs.Content.{Book, entries_view}
use Rattle.carte_book.specs.Digest.{rules_digest_of}

-- the book of this kind with these items
abbrev pub book_with : Kind → List (List ℕ × CodeItem) → Book
book_with q es = record { kind = q; items = from_entries (entries_view es) }

-- where a digest is known, it is that of the book's rules
abbrev pub Knows : Option Digest → Book → Type 0
Knows o b = (d : Digest) → o ≡ Some d → d ≡ rules_digest_of b
