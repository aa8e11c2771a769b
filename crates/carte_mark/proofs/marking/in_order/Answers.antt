use Rattle.std.proofs.Common.{Result, Ok, Err, sym, subst}
use Rattle.std.specs.Prelude.{IfOk}
use Rattle.carte_value.specs.Truths.{Among, IsListOf}
use Rattle.carte_mark.proofs.Listing.{IsInOrder, in_order}
use Rattle.carte_mark.proofs.marking.in_order.Goals as goal

if_ok : {A E : Type 0} {P Q : A → Type 0} (r : Result A E) → ((x : A) → P x → Q x) → IfOk r P → IfOk r Q
if_ok (Ok x) f p = f x p
if_ok (Err e) f p = p

pub returns : goal.returns
returns c =
    let ms = c.args.names.items in
    let sorted = c.sort_unstable.new.self.items in
    let once = c.dedup.new.self.items in
    let order : IsInOrder ms sorted once = record { permutation = c.sort_unstable.ensures.permutation; rising = c.sort_unstable.ensures.sorted; once = c.dedup.ensures.filtered } in
    if_ok c.listed.result (λ names is. subst (IsListOf (Among ms)) (sym is) (in_order ms sorted once order)) c.listed.ensures
