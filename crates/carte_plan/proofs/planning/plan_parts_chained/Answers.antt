use Rattle.std.proofs.Common.{ℕ, List, [], ◌∷◌, ◌++◌, ap, refl, subst, sym, ◌∙◌}
use Rattle.carte_book.specs.Book.{book_view}
use Rattle.carte_record.specs.Kept.{SomeKept}
use Rattle.carte_sound.specs.LeadsTo.{chain_behind}
use Rattle.carte_sound.specs.Left.{keys_of}
use Rattle.carte_sound.specs.Treated.{IsDoneRestarting}
use Rattle.carte_note.specs.Right.{finishes_of}
use Rattle.carte_plan.specs.Cuts.{AllUnmarked}
use Rattle.carte_plan.specs.Planned.{PutsChain}
use Rattle.carte_plan.proofs.PartsLead.{last_unmarked, parts_chained}
use Rattle.carte_mark.specs.Bases.{beginning_of}
use Rattle.carte_plan.proofs.Pieces.{if_ok}
use Rattle.carte_plan.proofs.planning.plan_parts_chained.Goals as goal

pub returns-clause-unmarked : goal.returns-clause-unmarked
returns-clause-unmarked g c =
    let cut = c.in_ok-cut.cut in
    if_ok c.all.result
    (λ all is. subst AllUnmarked (sym is) (last_unmarked c.args.base.now.chain c.args.chain.now cut.full.items cut.last c.put_chain.new.batch (c.in_ok-put_chain.ensures {u = tt}) (c.in_ok-cut.ensures {u = tt}).unmarked))
    c.all.ensures

pub returns-clause-restarting : goal.returns-clause-restarting
returns-clause-restarting g c K targets begins built is =
    let h = g.R.Rebuilder.how c.args.rebuilder.now in
    let b = book_view c.args.book.now in
    let x = c.args.begun.now in
    let fs = c.args.finished.now in
    let cut = c.in_ok-cut.cut in
    let old = ap (λ (M : SomeKept). M.chain) begins.base in
    let puts = subst (λ (ks : List (List ℕ)). PutsChain ks c.args.chain.now cut.last c.put_chain.new.batch) old (c.in_ok-put_chain.ensures {u = tt}) in
    if_ok c.all.result
    (λ all are. parts_chained h (λ (M : SomeKept) (k : List ℕ). IsDoneRestarting h M b targets k) K b (beginning_of x) fs c.args.chain.now all.items begins.begun
    (cut.full.items ++ cut.last ∷ [], (c.in_ok-cut.ensures {u = tt}).plans K begins, record { full = cut.full.items; last = cut.last; chained = c.put_chain.new.batch; before = refl; behind = are; puts = puts }) built (is ∙ ap (chain_behind (keys_of (finishes_of fs))) old))
    c.all.ensures

pub returns-clause-plans : goal.returns-clause-plans
returns-clause-plans g c K begins =
    let cut = c.in_ok-cut.cut in
    let puts = subst (λ (ks : List (List ℕ)). PutsChain ks c.args.chain.now cut.last c.put_chain.new.batch) (ap (λ (M : SomeKept). M.chain) begins.base) (c.in_ok-put_chain.ensures {u = tt}) in
    if_ok c.all.result
    (λ all are. (cut.full.items ++ cut.last ∷ [], (c.in_ok-cut.ensures {u = tt}).plans K begins, record { full = cut.full.items; last = cut.last; chained = c.put_chain.new.batch; before = refl; behind = are; puts = puts }))
    c.all.ensures
