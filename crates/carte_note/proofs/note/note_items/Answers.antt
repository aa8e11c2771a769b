use Rattle.std.proofs.Common.{◌≡◌, Result, Ok, Err, OnOk, ap, sym, ◌∙◌}
use Rattle.carte_book.specs.Book.{book_view}
use Rattle.carte_note.specs.Methods.{how_of}
use Rattle.carte_note.specs.Writes.{with_entry}
use Rattle.carte_note.proofs.Growing.{grown_self, grown_on}
use Rattle.carte_note.proofs.Noted.{nothing_noted}
use Rattle.carte_note.proofs.note.note_items.Goals as goal

on_ok : {A E : Type 0} {P Q : Type 0} (r : Result A E) → (P → Q) → OnOk r P → OnOk r Q
on_ok (Ok x) f p = f p
on_ok (Err e) f p = p

pub returns-then-brings_nothing-clause-grown : goal.returns-then-brings_nothing-clause-grown
returns-then-brings_nothing-clause-grown c = grown_self c.args.batch.now

pub returns-then-brings_nothing-clause-noted : goal.returns-then-brings_nothing-clause-noted
returns-then-brings_nothing-clause-noted c = nothing_noted (how_of c.args.method) (book_view c.args.book.now) c.args.kept.now c.args.finished.now c.args.batch.now (sym c.brings_nothing.ensures ∙ c.if-brings_nothing.true)

pub returns-in_err-digests-clause-grown : goal.returns-in_err-digests-clause-grown
returns-in_err-digests-clause-grown c = grown_self c.args.batch.now

pub returns-in_err-note_run-clause-grown : goal.returns-in_err-note_run-clause-grown
returns-in_err-note_run-clause-grown c = c.note_run.ensures.grown

pub returns-clause-grown : goal.returns-clause-grown
returns-clause-grown c = grown_on c.args.batch.now c.note_run.new.batch c.note_entry.new.batch c.note_run.ensures.grown c.note_entry.ensures.grown

pub returns-clause-noted : goal.returns-clause-noted
returns-clause-noted c =
    let h = how_of c.args.method in
    let b = book_view c.args.book.now in
    let K = c.args.kept.now in
    let f = c.args.finished.now in
    on_ok c.note_entry.result
    (λ (is : c.note_entry.new.batch ≡ with_entry h b K f c.note_run.new.batch). is ∙ ap (with_entry h b K f) (c.in_ok-note_run.ensures {u = tt}).noted)
    c.note_entry.ensures.noted
