use Rattle.std.proofs.Common.{ap, sym, ◌∙◌}
use Rattle.carte_book.specs.Book.{book_view}
use Rattle.carte_record.specs.Kept.{kept_view}
use Rattle.carte_state.specs.States.{kept_in}
use Rattle.carte_engine.specs.Versions.{kept_or}
use Rattle.carte_engine.proofs.Marking.{if_apart}
use Rattle.carte_engine.proofs.basis.begin_on.Goals as goal

pub returns-in-Some-clause-begins : goal.returns-in-Some-clause-begins
returns-in-Some-clause-begins c =
    if_apart (book_view c.args.book.now) c.args.state.now (kept_view c.in-Some.kept) c.begin_apart.result
    (ap (kept_or (kept_in c.args.state.now)) (sym c.in-Some.is) ∙ c.in_ok-kept.ensures.finds) c.begin_apart.ensures
