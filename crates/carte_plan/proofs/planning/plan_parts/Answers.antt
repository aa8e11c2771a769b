use Rattle.std.proofs.Common.{ℕ, List, subst, sym}
use Rattle.carte_book.specs.Book.{book_view}
use Rattle.carte_record.specs.Kept.{SomeKept}
use Rattle.carte_sound.specs.Treated.{IsDoneInOrder, IsDoneSuspending}
use Rattle.carte_plan.specs.Cuts.{AllUnmarked, PlansParts}
use Rattle.carte_plan.proofs.PartsLead.{parts_lead}
use Rattle.carte_mark.specs.Bases.{beginning_of}
use Rattle.carte_plan.proofs.Pieces.{if_ok}
use Rattle.carte_plan.proofs.planning.plan_parts.Goals as goal

pub returns-clause-unmarked : goal.returns-clause-unmarked
returns-clause-unmarked g c = if_ok c.all.result (λ all is. subst AllUnmarked (sym is) (c.in_ok-cut.ensures {u = tt}).unmarked) c.all.ensures

pub returns-clause-in_order : goal.returns-clause-in_order
returns-clause-in_order g c K targets begins built =
    let h = g.R.Rebuilder.how c.args.rebuilder.now in
    let b = book_view c.args.book.now in
    let x = c.args.begun.now in
    if_ok c.all.result
    (λ all is. parts_lead h (λ (M : SomeKept) (k : List ℕ). IsDoneInOrder b targets k) K b (beginning_of x) c.args.finished.now all.items begins.begun (subst (PlansParts h K b (beginning_of x) c.args.finished.now) (sym is) ((c.in_ok-cut.ensures {u = tt}).plans K begins)) built)
    c.all.ensures

pub returns-clause-suspending : goal.returns-clause-suspending
returns-clause-suspending g c K targets begins built =
    let h = g.R.Rebuilder.how c.args.rebuilder.now in
    let b = book_view c.args.book.now in
    let x = c.args.begun.now in
    if_ok c.all.result
    (λ all is. parts_lead h (λ (M : SomeKept) (k : List ℕ). IsDoneSuspending h M b targets k) K b (beginning_of x) c.args.finished.now all.items begins.begun (subst (PlansParts h K b (beginning_of x) c.args.finished.now) (sym is) ((c.in_ok-cut.ensures {u = tt}).plans K begins)) built)
    c.all.ensures

pub returns-clause-refused : goal.returns-clause-refused
returns-clause-refused g c K begins built =
    let h = g.R.Rebuilder.how c.args.rebuilder.now in
    let b = book_view c.args.book.now in
    let x = c.args.begun.now in
    if_ok c.all.result
    (λ all is. parts_lead h (λ (M : SomeKept) (k : List ℕ). ⊥) K b (beginning_of x) c.args.finished.now all.items begins.begun (subst (PlansParts h K b (beginning_of x) c.args.finished.now) (sym is) ((c.in_ok-cut.ensures {u = tt}).plans K begins)) built)
    c.all.ensures

pub returns-clause-plans : goal.returns-clause-plans
returns-clause-plans g c K begins =
    if_ok c.all.result
    (λ all is. subst (PlansParts (g.R.Rebuilder.how c.args.rebuilder.now) K (book_view c.args.book.now) (beginning_of c.args.begun.now) c.args.finished.now) (sym is) ((c.in_ok-cut.ensures {u = tt}).plans K begins))
    c.all.ensures
