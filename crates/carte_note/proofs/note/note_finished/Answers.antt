use Rattle.std.proofs.Common.{◌≡◌, Result, Ok, Err, OnOk, sym, subst}
use Rattle.carte_book.specs.Book.{book_view}
use Rattle.carte_record.specs.declared.batch.Batch.{Batch}
use Rattle.carte_record.specs.Kept.{kept_view}
use Rattle.carte_note.specs.Methods.{how_of}
use Rattle.carte_note.specs.Notes.{Notes, AreUnmarked}
use Rattle.carte_note.specs.Writes.{with_finished}
use Rattle.carte_note.proofs.Noted.{noted, unmarked}
use Rattle.carte_note.proofs.note.note_finished.Goals as goal

on_ok : {A E : Type 0} {P Q : Type 0} (r : Result A E) → (P → Q) → OnOk r P → OnOk r Q
on_ok (Ok x) f p = f p
on_ok (Err e) f p = p

pub returns-clause-notes : goal.returns-clause-notes
returns-clause-notes c =
    let h = how_of c.args.method in
    let b = book_view c.args.book.now in
    let K = c.args.kept.now in
    let f = c.args.finished.now in
    on_ok c.note_items.result
    (λ (is : c.note_items.new.batch ≡ with_finished h b K f c.args.batch.now). subst (λ B. Notes h (kept_view K) b f c.args.batch.now B) (sym is) (noted h K b f c.args.batch.now))
    c.note_items.ensures.noted

pub returns-clause-unmarked : goal.returns-clause-unmarked
returns-clause-unmarked c =
    let h = how_of c.args.method in
    let b = book_view c.args.book.now in
    let K = c.args.kept.now in
    let f = c.args.finished.now in
    on_ok c.note_items.result
    (λ (is : c.note_items.new.batch ≡ with_finished h b K f c.args.batch.now).
    subst (λ (B : Batch). AreUnmarked c.args.batch.now.entries → AreUnmarked B.entries) (sym is) (unmarked h b K f c.args.batch.now.entries))
    c.note_items.ensures.noted

pub returns-clause-front : goal.returns-clause-front
returns-clause-front c = c.note_items.ensures.grown.front

pub returns-clause-start : goal.returns-clause-start
returns-clause-start c = c.note_items.ensures.grown.start

pub returns-clause-gone : goal.returns-clause-gone
returns-clause-gone c = c.note_items.ensures.grown.gone

pub returns-clause-stale : goal.returns-clause-stale
returns-clause-stale c = c.note_items.ensures.grown.stale

pub returns-clause-chain : goal.returns-clause-chain
returns-clause-chain c = c.note_items.ensures.grown.chain

pub returns-clause-items : goal.returns-clause-items
returns-clause-items c = c.note_items.ensures.noted
