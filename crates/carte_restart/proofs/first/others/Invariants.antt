use Rattle.std.proofs.Common.{ℕ, List, take}
use Rattle.carte_book.specs.Book.{book_view}
use Rattle.carte_sound.specs.Chains.{ArePicked}
use Rattle.carte_restart.specs.Led.{AreTaken, IsOther}
use Rattle.carte_restart.proofs.first.others.Given as goal

abbrev pub invariant-loop-at : goal.invariant-loop-at
invariant-loop-at l = (chain : List (List ℕ)) → AreTaken l.led chain l.taken → ArePicked (IsOther (book_view l.book) chain) (take l.at l.led) l.names.items
