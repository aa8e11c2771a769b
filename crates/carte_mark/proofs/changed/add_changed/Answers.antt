use Rattle.std.proofs.Common.{Result, Ok, Err, sym, ◌∙◌}
use Rattle.std.specs.Prelude.{OnOk}
use Rattle.carte_book.specs.Book.{book_view}
use Rattle.carte_record.specs.Kept.{kept_view}
use Rattle.carte_mark.proofs.Changing.{adds_name}
use Rattle.carte_mark.proofs.changed.add_changed.Goals as goal

on_ok : {A E : Type 0} {P Q : Type 0} (r : Result A E) → (P → Q) → OnOk r P → OnOk r Q
on_ok (Ok x) f p = f p
on_ok (Err e) f p = p

pub returns : goal.returns
returns c =
    on_ok c.put.result (adds_name (kept_view c.args.kept.now) (book_view c.args.book.now) c.args.link.now c.args.names.now c.put.new.names
    (sym c.has_changed.ensures ∙ c.if-not-has_changed.false)) c.put.ensures.put
