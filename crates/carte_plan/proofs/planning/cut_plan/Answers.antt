use Rattle.std.proofs.Common.{List, [], ◌∷◌, ◌++◌, subst}
use Rattle.std.specs.Prelude.{take}
use Rattle.carte_book.specs.Book.{book_view}
use Rattle.carte_sound.specs.Held.{How}
use Rattle.carte_sound.specs.LeadsTo.{marks_left}
use Rattle.carte_sound.specs.Parts.{full_part}
use Rattle.carte_note.specs.declared.finished.Finished.{Finished}
use Rattle.carte_note.specs.Methods.{how_of}
use Rattle.carte_note.specs.Right.{finishes_of}
use Rattle.carte_mark.specs.Bases.{beginning_of}
use Rattle.carte_plan.specs.Cuts.{AreCuts}
use Rattle.carte_plan.proofs.PartsLead.{all_cuts_unmarked, all_parts_planned}
use Rattle.carte_plan.proofs.Pieces.{if_ok}
use Rattle.carte_plan.proofs.planning.cut_plan.Goals as goal

pub returns-clause-unmarked : goal.returns-clause-unmarked
returns-clause-unmarked g c =
    let x = c.args.begun.now in
    if_ok c.in_parts.result
    (λ cut are. all_cuts_unmarked (how_of c.method.result) (book_view c.args.book.now) c.args.base.now c.as_slice-keys.result.now x.gone (marks_left (finishes_of (take full_part c.args.finished.now)) (beginning_of x)) c.in_ok-batch.batch (cut.full.items ++ cut.last ∷ [])
    (c.in_ok-batch.ensures {u = tt}) are)
    c.in_parts.ensures

pub returns-clause-plans : goal.returns-clause-plans
returns-clause-plans g c K begins =
    let b = book_view c.args.book.now in
    let lists = c.args.base.now in
    if_ok c.in_parts.result
    (λ cut are. all_parts_planned (g.R.Rebuilder.how c.args.rebuilder.now) K lists b c.args.begun.now c.args.finished.now c.in_ok-batch.batch (cut.full.items ++ cut.last ∷ []) begins (c.in_ok-batch.ensures {u = tt})
    (subst (λ (h : How). AreCuts h b lists c.args.finished.now c.in_ok-batch.batch (cut.full.items ++ cut.last ∷ [])) c.method.ensures
    (subst (λ (fs : List Finished). AreCuts (how_of c.method.result) b lists fs c.in_ok-batch.batch (cut.full.items ++ cut.last ∷ [])) c.as_slice-keys.ensures are)))
    c.in_parts.ensures
