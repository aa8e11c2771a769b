use Rattle.std.proofs.Common.{subst}
use Rattle.carte_book.specs.Book.{book_view}
use Rattle.carte_explain.specs.Why.{Explains}
use Rattle.carte_record.specs.Kept.{kept_view}
use Rattle.carte_shell.specs.Explained.{Tells}
use Rattle.carte_shell.proofs.Results.{lifted}
use Rattle.carte_shell.proofs.why.line_of.Goals as goal

pub returns : goal.returns
returns c =
    let K = kept_view c.args.kept.now in
    let b = book_view c.args.book.now in
    let told : Tells c.args.kind K b c.args.work.now c.args.key.now c.in_ok-why.why =
    subst (λ q. Explains c.args.kind K b c.args.work.now c.args.key.now q) c.in_ok-why.was c.explain.ensures in
    lifted c.why_line.result _ _ c.why_line.ensures (λ text is. (c.in_ok-why.why, told, is))
