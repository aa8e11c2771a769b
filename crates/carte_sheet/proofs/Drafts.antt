-- What drafts answer.
use Rattle.std.proofs.Common.{◌≡◌, Result, Ok, Err, subst}
use Rattle.carte_name.specs.declared.kind.Kind.{Kind}
use Rattle.carte_name.specs.declared.kind.Kind.TheVariants.{Sheet}
use Rattle.carte_book.specs.Book.{book_view}
use Rattle.carte_book.specs.Drafts.{Becomes}
use Rattle.carte_book.specs.declared.book.Book.{Book as CodeBook}
use Rattle.carte_book.specs.declared.fault.BookFault.{BookFault}
use Rattle.carte_sheet.specs.Reading.{Content, book_of}
use Rattle.carte_sheet.specs.Steps.{Gives}

becomes : (m : Content) (r : Result CodeBook BookFault) → Becomes Sheet m r → Gives book_view (book_of m) r
becomes m (Ok b) a = a
becomes m (Err fault) a = λ cause. a

-- what is read is a sheet
pub gives : (q : Kind) (m : Content) (r : Result CodeBook BookFault) → q ≡ Sheet → Becomes q m r → Gives book_view (book_of m) r
gives q m r sheet a = becomes m r (subst (λ (p : Kind). Becomes p m r) sheet a)
