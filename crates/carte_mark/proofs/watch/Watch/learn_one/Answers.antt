use Rattle.std.proofs.Common.{Result, Ok, Err}
use Rattle.std.specs.Prelude.{OnOk}
use Rattle.carte_record.specs.Kept.{kept_view}
use Rattle.carte_mark.specs.Watching.{suspects_in, users_in}
use Rattle.carte_mark.proofs.Learning.{grows_on, seen_on, users_on}
use Rattle.carte_mark.proofs.watch.Watch.learn_one.Goals as goal

on_ok : {A E : Type 0} {P Q : Type 0} (r : Result A E) → (P → Q) → OnOk r P → OnOk r Q
on_ok (Ok x) f p = f p
on_ok (Err e) f p = p

pub returns : goal.returns
returns c =
    let K = kept_view c.args.kept.now in
    let a = c.args.self.now in
    let m = c.learn_seen.new.self in
    let z = c.learn_entries.new.self in
    let seen = c.in_ok-learn_seen.ensures {u = tt} in
    on_ok c.learn_entries.result (λ learns. (
      grows_on (suspects_in a) (suspects_in m) (suspects_in z) (users_in a) (users_in m) (users_in z) seen.0 learns.0,
      (λ users. record {
        seen = seen_on (suspects_in m) (suspects_in z) (users_in m) (users_in z) c.args.batch.now.seen learns.0 seen.1;
        entries = learns.1 (users_on K (suspects_in a) (suspects_in m) (users_in a) (users_in m) seen.0 users);
      }),
    )) c.learn_entries.ensures
