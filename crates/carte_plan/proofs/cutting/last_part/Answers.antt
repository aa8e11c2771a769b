use Rattle.std.proofs.Common.{◌∙◌}
use Rattle.carte_book.specs.Book.{book_view}
use Rattle.carte_note.specs.Methods.{how_of}
use Rattle.carte_plan.specs.Cuts.{with_all}
use Rattle.carte_plan.proofs.Pieces.{cut_same, if_ok}
use Rattle.carte_plan.proofs.cutting.last_part.Goals as goal

pub returns : goal.returns
returns c =
    let all = with_all (how_of c.args.method) (book_view c.args.book.now) c.args.kept.now c.args.part.now c.args.opened in
    if_ok c.take_last.result
    (λ cut is. is ∙ cut_same c.args.opened c.note_part.new.batch all c.len-values.result c.len-seen.result c.len-values.ensures.number c.len-seen.ensures.number (c.in_ok-note_part.ensures {u = tt}))
    c.take_last.ensures
