use Rattle.std.proofs.Common.{ap, sym, ◌∙◌, subst}
use Rattle.std.specs.Prelude.{IfSome}
use Rattle.carte_book.specs.Book.{book_view}
use Rattle.carte_mark.specs.Bases.{IsBegun}
use Rattle.carte_record.specs.Kept.{kept_view}
use Rattle.carte_plan.proofs.Lists.{no_items}
use Rattle.carte_engine.proofs.Marking.{if_apart, stands_here}
use Rattle.carte_engine.proofs.basis.begin_here.Goals as goal

pub returns-then-not-is_empty-clause-begins : goal.returns-then-not-is_empty-clause-begins
returns-then-not-is_empty-clause-begins c =
    let b = book_view c.args.book.now in
    let kept = c.kept-then-not-is_empty.result.now in
    let begun = subst (λ K. IsBegun (kept_view K) b c.in_ok-begun.begun) (c.kept.ensures ∙ sym c.kept-then-not-is_empty.ensures) (c.in_ok-begun.ensures {u = tt}) in
    if_apart b c.args.state.now (kept_view kept) c.apart.result (ap kept_view c.kept-then-not-is_empty.ensures ∙ c.requires.found) (c.apart.ensures b begun)

pub returns-clause-begins : goal.returns-clause-begins
returns-clause-begins c =
    let b = book_view c.args.book.now in
    let begun = subst (λ K. IsBegun (kept_view K) b c.in_ok-begun.begun) c.kept.ensures (c.in_ok-begun.ensures {u = tt}) in
    stands_here b c.args.state.now c.mark.new.self c.in_ok-begun.begun c.requires.found begun
    (no_items c.in_ok-begun.begun.gone (sym c.is_empty.ensures ∙ c.if-not-is_empty.false)) c.mark.ensures.view c.mark.ensures.lists

pub begun_or-requires : goal.begun_or-requires
begun_or-requires c =
    let b = book_view c.args.book.now in
    subst (λ K. IfSome c.args.known (IsBegun (kept_view K) b)) (sym c.kept.ensures) (subst (λ K. IfSome c.args.known (IsBegun K b)) (sym c.requires.found) c.requires.known)
