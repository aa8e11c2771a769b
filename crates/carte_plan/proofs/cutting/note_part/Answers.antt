use Rattle.std.proofs.Common.{◌≡◌, ◌<◌, ◌≤◌, [], ◌∷◌, ◌++◌, length, take, ap, refl, sym, ◌∙◌, rules}
use Rattle.std.proofs.lemmas.List.{take_more}
use Rattle.std.proofs.lemmas.Option.{slice_get_read}
use Rattle.carte_table.proofs.Fronts.{take_whole}
use Rattle.carte_book.specs.Book.{book_view}
use Rattle.carte_note.specs.Methods.{how_of}
use Rattle.carte_note.specs.Writes.{task_made, with_finished}
use Rattle.carte_plan.specs.Cuts.{with_all}
use Rattle.carte_plan.proofs.Pieces.{all_end}
use Rattle.carte_plan.proofs.TasksAhead.{if_ahead}
use Rattle.carte_plan.proofs.cutting.note_part.Goals as goal

pub loop-at-init : goal.loop-at-init
loop-at-init c = refl

pub loop-at-preserved : goal.loop-at-preserved
loop-at-preserved c =
    let fs = c.args.part.now in
    let at = c.loop-at.at in
    let below : at < length fs = search rules in
    let more = take_more fs at c.index-part-at.result below ∙ ap (λ x. take at fs ++ x ∷ []) (sym c.index-part-at.is) in
    let h = how_of c.args.method in
    let b = book_view c.args.book.now in
    let K = c.args.kept.now in
    (c.in_ok-note_finished.ensures {u = tt}).items
    ∙ (ap (with_finished h b K c.index-part-at.result) c.loop-at.invariant
    ∙ (sym (all_end h b K (take at fs) c.index-part-at.result c.widen.new.self) ∙ ap (λ xs. with_all h b K xs c.widen.new.self) (sym more)))

pub returns : goal.returns
returns c =
    let fs = c.args.part.now in
    let at = c.loop-at.at in
    let past : length fs ≤ at = search rules in
    let h = how_of c.args.method in
    let b = book_view c.args.book.now in
    let K = c.args.kept.now in
    c.loop-at.invariant ∙ (ap (λ xs. with_all h b K xs c.widen.new.self) (take_whole at fs past) ∙ ap (with_all h b K fs) c.widen.ensures)

pub note_finished-requires : goal.note_finished-requires
note_finished-requires c =
    let fs = c.args.part.now in
    let at = c.loop-at.at in
    let f = c.index-part-at.result in
    if_ahead c.task_ahead-task.result (λ d. d ≡ task_made (book_view c.args.book.now) f)
    (λ d is. c.requires at d f (c.task_ahead-task.ensures d is) (slice_get_read fs (length fs) at f refl c.loop-at-test.true c.index-part-at.is))
