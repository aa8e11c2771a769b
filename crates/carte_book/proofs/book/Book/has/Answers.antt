use Rattle.std.proofs.Common.{◌∙◌}
use Rattle.carte_book.proofs.Books.{has_found}
use Rattle.carte_book.proofs.book.Book.has.Goals as goal

pub returns : goal.returns
returns c = c.contains_key.ensures ∙ has_found c.args.self.now c.args.name.now
