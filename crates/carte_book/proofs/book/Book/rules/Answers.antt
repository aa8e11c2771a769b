use Rattle.std.proofs.Common.{◌≡◌, [], rules}
use Rattle.carte_book.proofs.Listed.{none_listed}
use Rattle.carte_book.proofs.book.Book.rules.Goals as goal

pub loop-name-init : goal.loop-name-init
loop-name-init c =
    let none : c.new-rules.result.items ≡ [] = search rules in
    none_listed c.args.self.now.kind c.args.self.now.items.entries c.new-rules.result.items c.into_iter-name-iterator.result none c.into_iter-name-iterator.ensures.into_iter_gives.0 c.args.self.now.fits
