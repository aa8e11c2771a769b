use Rattle.std.proofs.Common.{◌≡◌, Result, Ok, Err, length, sym, subst, rules}
use Rattle.std.specs.Prelude.{IfOk}
use Rattle.carte_value.specs.Truths.{IsListOf}
use Rattle.carte_record.specs.Kept.{kept_view}
use Rattle.carte_sound.specs.Marks.{IsMarked}
use Rattle.carte_mark.proofs.Listing.{no_names, none_marked}
use Rattle.carte_mark.proofs.marking.marks_over.Goals as goal

if_ok : {A E : Type 0} {P Q : A → Type 0} (r : Result A E) → ((x : A) → P x → Q x) → IfOk r P → IfOk r Q
if_ok (Ok x) f p = f x p
if_ok (Err e) f p = p

pub returns-then-is_empty : goal.returns-then-is_empty
returns-then-is_empty c =
    let changed = c.args.changed in
    let zero : length changed ≡ 0 = search rules in
    λ b are. subst (IsListOf (IsMarked (kept_view c.args.kept.now) b)) (sym c.new.ensures) (none_marked c.args.kept.now b changed are (no_names changed zero))

pub returns : goal.returns
returns c = if_ok c.marks_of.result (λ names marks b are. marks b c.args.changed are (c.in_ok-reached.ensures {u = tt})) c.marks_of.ensures
