use Rattle.std.proofs.Common.{sym, ◌∙◌}
use Rattle.carte_book.proofs.Books.{keys_held}
use Rattle.carte_book.proofs.book.Book.keys.Goals as goal

pub returns : goal.returns
returns c = c.len.ensures.len ∙ sym (keys_held c.args.self.now c.len.ensures.unique)
