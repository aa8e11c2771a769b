use Rattle.std.proofs.Common.{Result, Ok, Err, Some, ap, sym, ◌∙◌}
use Rattle.std.specs.Prelude.{IfOk}
use Rattle.carte_book.specs.Book.{book_view}
use Rattle.carte_explain.specs.declared.why.Why.{Why}
use Rattle.carte_explain.proofs.Explaining.{why_input, why_ran, why_reused}
use Rattle.carte_explain.proofs.target.explain.Goals as goal

told : {E : Type 0} (q : Result Why E) (P Q : Why → Type 0) → IfOk q P → ((why : Why) → P why → Q why) → IfOk q Q
told (Ok why) P Q holds goes = goes why holds
told (Err e) P Q holds goes = tt

pub returns-in-Some-true : goal.returns-in-Some-true
returns-in-Some-true c H targets x sound distinct begins is_work all among =
    told c.cause.result _ _ c.cause.ensures (λ why found. why_ran c.args.kept.now (book_view c.args.book.now) c.args.rebuilder H targets x c.args.work.now c.args.key.now sound distinct begins is_work all among why found (ap Some (sym c.in-Some-true.field-0-test) ∙ sym c.in-Some-true.is ∙ c.ran.ensures))

pub returns-in-Some-false : goal.returns-in-Some-false
returns-in-Some-false c H targets x sound distinct begins is_work all among =
    why_reused c.args.kept.now (book_view c.args.book.now) c.args.rebuilder H targets x c.args.work.now c.args.key.now sound distinct begins is_work all among (ap Some (sym c.in-Some-false.field-0-test) ∙ sym c.in-Some-false.is ∙ c.ran.ensures)

pub returns-in-None : goal.returns-in-None
returns-in-None c H targets x sound distinct begins is_work all among =
    why_input c.args.kept.now (book_view c.args.book.now) c.args.rebuilder H targets x c.args.work.now c.args.key.now sound distinct begins is_work all among (sym c.in-None.is ∙ c.ran.ensures)
