use Rattle.carte_book.specs.Book.{book_view}
use Rattle.carte_book.proofs.RulesKept.{knows_still}
use Rattle.carte_book.proofs.book.Book.put_input.Goals as goal

pub invariant_of-self : goal.invariant_of-self
invariant_of-self c =
    let done = c.put_value-done.new.self in
    record {
      is_nothing = done.is_nothing;
      fits = done.fits;
      listed = done.listed;
      knows = knows_still c.args.self.now.known (book_view c.args.self.now) (book_view done) c.args.name.now c.args.value c.put_value-done.result c.put_value-done.ensures c.args.self.now.knows;
    }
