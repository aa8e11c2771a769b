use Rattle.std.proofs.Common.{ap, ◌∙◌}
use Rattle.carte_book.specs.Book.{book_view}
use Rattle.carte_note.specs.Methods.{how_of}
use Rattle.carte_plan.specs.Cuts.{rest_of, with_all}
use Rattle.carte_plan.proofs.Pieces.{cut_same, if_ok, on_ok}
use Rattle.carte_plan.proofs.cutting.next_part.Goals as goal

pub returns-clause-part : goal.returns-clause-part
returns-clause-part c =
    let all = with_all (how_of c.args.method) (book_view c.args.book.now) c.args.kept.now c.args.part.now c.args.batch.now in
    if_ok c.take_part.result
    (λ cut is. is ∙ cut_same c.args.batch.now c.note_part.new.batch all c.len-values.result c.len-seen.result c.len-values.ensures.number c.len-seen.ensures.number (c.in_ok-note_part.ensures {u = tt}))
    c.take_part.ensures.part

pub returns-clause-rest : goal.returns-clause-rest
returns-clause-rest c = on_ok c.take_part.result (λ is. is ∙ ap rest_of (c.in_ok-note_part.ensures {u = tt})) c.take_part.ensures.rest
