use Rattle.std.proofs.Common.{inl, inr}
use Rattle.carte_book.specs.Book.{book_view}
use Rattle.carte_engine.proofs.Valued.{no_input}
use Rattle.carte_engine.proofs.reckon.value.Goals as goal

pub made-requires : goal.made-requires
made-requires c = no_input (book_view c.args.book.now) c.args.finished.now c.args.name.now c.requires (λ v is. elim c.in-Rule.is [
  | inl a_rule ↦ (let other = rw a_rule.1 at c.lookup.ensures.answer in cc)
  | inr nothing ↦ (let other = rw nothing at c.lookup.ensures.answer in cc)
])
