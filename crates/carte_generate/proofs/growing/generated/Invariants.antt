use Rattle.carte_book.specs.Book.{book_view}
use Rattle.carte_generate.specs.Growing.{HasKeys, IsMade}
use Rattle.carte_generate.proofs.growing.generated.Given as goal

abbrev pub invariant-loop-number : goal.invariant-loop-number
invariant-loop-number l = HasKeys l.number (book_view l.book) × IsMade l.seed l.inputs l.number l.draws.state (book_view l.book)
