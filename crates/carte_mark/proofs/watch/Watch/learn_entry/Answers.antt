use Rattle.std.proofs.Common.{Result, Ok, Err}
use Rattle.std.specs.Prelude.{OnOk}
use Rattle.carte_record.specs.Kept.{kept_view}
use Rattle.carte_mark.specs.Tables.{users_by}
use Rattle.carte_mark.specs.Watching.{suspects_in, users_in}
use Rattle.carte_mark.proofs.Learning.{grows_put, knows_added, knows_same}
use Rattle.carte_mark.proofs.watch.Watch.learn_entry.Goals as goal

on_ok : {A E : Type 0} {P Q : Type 0} (r : Result A E) → (P → Q) → OnOk r P → OnOk r Q
on_ok (Ok x) f p = f p
on_ok (Err e) f p = p

pub returns-then-has_needs : goal.returns-then-has_needs
returns-then-has_needs c =
    let ks = suspects_in c.args.self.now in
    let d = users_in c.args.self.now in
    let js = c.put.new.names in
    let e = c.args.entry.now in
    let put = (c.in_ok-put.ensures {u = tt}).put in
    (grows_put ks js d e.key put, (λ users. knows_same (kept_view c.args.kept.now) ks js d e put (c.has_needs.ensures c.if-has_needs.true) users))

pub returns : goal.returns
returns c =
    let ks = suspects_in c.args.self.now in
    let d = users_in c.args.self.now in
    let js = c.put.new.names in
    let e = c.args.entry.now in
    let put = (c.in_ok-put.ensures {u = tt}).put in
    let new = users_by c.add_all.new.users in
    on_ok c.add_all.result (λ adds. let known = knows_added ks js d new e put adds in (known.0, (λ users. known.1))) c.add_all.ensures
