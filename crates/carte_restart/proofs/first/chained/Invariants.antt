use Rattle.std.proofs.Common.{[], take}
use Rattle.carte_book.specs.Book.{book_view}
use Rattle.carte_sound.specs.Chains.{ArePicked}
use Rattle.carte_restart.specs.Led.{AreTaken, IsRuleAmong}
use Rattle.carte_restart.proofs.first.chained.Given as goal

abbrev pub invariant-loop-name : goal.invariant-loop-name
invariant-loop-name l = record {
  picked : ArePicked (IsRuleAmong (book_view l.book) l.led) (take l.name-index l.name-items) l.names;
  taken : AreTaken l.led [] l.fn.taken.items → AreTaken l.led (take l.name-index l.name-items) l.taken.items;
}
