use Rattle.std.proofs.Common.{refl}
use Rattle.carte_book.specs.Book.{book_view}
use Rattle.carte_book.proofs.Drafting.{kind_stays, takes}
use Rattle.carte_book.proofs.draft.Draft.add_input.Goals as goal

pub returns-clause-kind : goal.returns-clause-kind
returns-clause-kind c = kind_stays (book_view c.args.self.now.book) (book_view c.add_input.new.self) c.args.name _ c.add_input.result c.add_input.ensures

pub returns-clause-takes : goal.returns-clause-takes
returns-clause-takes c = λ m h new. takes c.args.self.now _ m c.args.name _ c.add_input.result h (c.is_full.ensures.room c.if-is_full.false) c.add_input.ensures refl refl

pub returns-then-is_full-clause-takes : goal.returns-then-is_full-clause-takes
returns-then-is_full-clause-takes c = λ m h new. c.add_beyond.ensures.takes m _ h new
