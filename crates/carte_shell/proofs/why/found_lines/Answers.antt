use Rattle.std.proofs.Common.{◌≡◌, string_bytes, sym, ap, subst, ◌∙◌}
use Rattle.std.specs.Prelude.{IfOk}
use Rattle.carte_book.specs.Book.{book_view}
use Rattle.carte_engine.specs.Versions.{kept_for, kept_or}
use Rattle.carte_record.specs.Kept.{kept_view}
use Rattle.carte_state.specs.States.{any_in, kept_in}
use Rattle.carte_shell.specs.Explained.{TellsEach}
use Rattle.carte_shell.proofs.why.found_lines.Goals as goal

pub returns-in-Some : goal.returns-in-Some
returns-in-Some c =
    let b = book_view c.args.book.now in
    let same : kept_view c.in-Some.kept ≡ kept_for (any_in c.args.engine.now) b = ap (kept_or (kept_in c.args.engine.now)) (sym c.in-Some.is) ∙ c.in_ok-kept.ensures.finds in
    subst (λ K. IfOk c.why_lines.result (λ text. TellsEach c.args.kind K b c.args.work.now c.args.targets.now (string_bytes text))) same c.why_lines.ensures
