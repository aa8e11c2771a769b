use Rattle.std.proofs.Common.{Result, Ok, Err}
use Rattle.std.specs.Prelude.{IfOk}
use Rattle.carte_book.specs.Book.{book_view}
use Rattle.carte_record.specs.Kept.{kept_view}
use Rattle.carte_mark.proofs.Dropping.{all_gone}
use Rattle.carte_mark.proofs.gone.gone.Goals as goal

if_ok : {A E : Type 0} {P Q : A → Type 0} (r : Result A E) → ((x : A) → P x → Q x) → IfOk r P → IfOk r Q
if_ok (Ok x) f p = f x p
if_ok (Err e) f p = p

pub returns : goal.returns
returns c =
    let K = kept_view c.args.kept.now in
    let b = book_view c.args.book.now in
    let picked = c.in_ok-gone.gone.items in
    if_ok c.in_order.result (λ names l changed. all_gone K b c.args.changed.now picked names (c.in_ok-gone.ensures {u = tt}) l changed) c.in_order.ensures
