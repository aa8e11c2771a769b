-- What drafts answer.
use Rattle.std.proofs.Common.{◌≡◌, ℕ, List, None, true, is_some, Result, Ok, Err, subst, sym, ◌∙◌, ap}
use Rattle.std.specs.FinMap.{get}
use Rattle.std.proofs.lemmas.Bool.{false≢true}
use Rattle.carte_name.specs.declared.kind.Kind.{Kind}
use Rattle.carte_name.specs.declared.kind.Kind.TheVariants.{Rules, Sheet}
use Rattle.carte_book.specs.Book.{Item, book_view}
use Rattle.carte_book.specs.Drafts.{IsNew, Takes, Becomes}
use Rattle.carte_book.specs.declared.book.Book.{Book as CodeBook}
use Rattle.carte_book.specs.declared.draft.Draft.{Draft}
use Rattle.carte_book.specs.declared.fault.AddFault.{AddFault}
use Rattle.carte_book.specs.declared.fault.AddFault.TheVariants.{Twice}
use Rattle.carte_book.specs.declared.fault.BookFault.{BookFault}
use Rattle.carte_rules.specs.Reading.{Content, book_of}
use Rattle.carte_rules.specs.Steps.{Gives}

becomes : (m : Content) (r : Result CodeBook BookFault) → Becomes Rules m r → Gives book_view (book_of m) r
becomes m (Ok b) a = a
becomes m (Err fault) a = λ cause. a

-- what is read is a rule file
pub gives : (q : Kind) (m : Content) (r : Result CodeBook BookFault) → q ≡ Rules → Becomes q m r → Gives book_view (book_of m) r
gives q m r rules a = becomes m r (subst (λ (p : Kind). Becomes p m r) rules a)

-- in a rule file any name may be asked for
pub any_name : (q : Kind) (m : Content) (k : List ℕ) → q ≡ Rules → IsNew q m k
any_name q m k rules sheet = absurd (let apart : Rules ≡ Sheet = sym rules ∙ sheet in cc)

-- what was refused as standing twice stands
pub stands : (k : List ℕ) (x : Item) (m : Content) (d : Draft) (r : Result (Unit {0}) AddFault) → Takes k x m d r → r ≡ Err Twice → is_some (get m k) ≡ true
stands k x m d r a is = subst (λ (s : Result (Unit {0}) AddFault). Takes k x m d s) is a

-- where nothing stands, nothing is refused so
pub never_twice : (k : List ℕ) (x : Item) (m : Content) (d : Draft) (r : Result (Unit {0}) AddFault) → Takes k x m d r → get m k ≡ None → r ≡ Err Twice → ⊥
never_twice k x m d r a none is = false≢true (sym (ap is_some none) ∙ stands k x m d r a is)
