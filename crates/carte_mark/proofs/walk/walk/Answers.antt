use Rattle.std.proofs.Common.{Result, Ok, Err}
use Rattle.std.specs.Prelude.{IfOk}
use Rattle.carte_mark.specs.Tables.{users_by}
use Rattle.carte_mark.proofs.Reaching.{has_users}
use Rattle.carte_mark.proofs.walk.walk.Goals as goal

if_ok : {A E : Type 0} {P Q : A → Type 0} (r : Result A E) → ((x : A) → P x → Q x) → IfOk r P → IfOk r Q
if_ok (Ok x) f p = f x p
if_ok (Err e) f p = p

pub returns : goal.returns
returns c =
    let d = users_by c.in_ok-users.users in
    if_ok c.walk_over.result (λ reached are. are (has_users c.args.kept.now d (c.in_ok-users.ensures {u = tt}))) c.walk_over.ensures
