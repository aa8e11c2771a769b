use Rattle.std.proofs.Common.{Result, Ok, Err}
use Rattle.std.specs.Prelude.{IfOk}
use Rattle.carte_mark.proofs.Listing.{all_marked}
use Rattle.carte_mark.proofs.marking.marks_of.Goals as goal

if_ok : {A E : Type 0} {P Q : A → Type 0} (r : Result A E) → ((x : A) → P x → Q x) → IfOk r P → IfOk r Q
if_ok (Ok x) f p = f x p
if_ok (Err e) f p = p

pub returns : goal.returns
returns c =
    let ms = c.in_ok-marks.marks.items in
    if_ok c.in_order.result (λ names l b before are reached. all_marked c.args.kept.now b before c.args.reached.now are reached ms names (c.in_ok-marks.ensures {u = tt}) l) c.in_order.ensures
