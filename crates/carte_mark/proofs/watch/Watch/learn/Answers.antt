use Rattle.std.proofs.Common.{◌≡◌, ◌<◌, ◌≤◌, [], ◌∷◌, ◌++◌, length, take, ap, sym, ◌∙◌, subst, rules}
use Rattle.std.proofs.lemmas.List.{take_more}
use Rattle.carte_record.specs.Folds.{applied}
use Rattle.carte_record.specs.Kept.{kept_view}
use Rattle.carte_table.proofs.Fronts.{take_whole}
use Rattle.carte_mark.specs.Watching.{Watches, suspects_in, users_in}
use Rattle.carte_mark.proofs.Learning.{KnowsAll, all_more, grows_on, grows_self, users_on}
use Rattle.carte_mark.proofs.Watching.{users_of, watches_all, watches_on}
use Rattle.carte_mark.proofs.watch.Watch.learn.Goals as goal

pub loop-batch-init : goal.loop-batch-init
loop-batch-init c = (grows_self (suspects_in c.args.self) (users_in c.args.self), (λ users. tt))

pub loop-batch-preserved : goal.loop-batch-preserved
loop-batch-preserved c =
    let K = kept_view c.args.kept.now in
    let first = c.args.self in
    let old = c.loop-batch.watch in
    let new = c.learn_one.new.self in
    let batches = c.args.batches.now in
    let at = c.loop-batch.batch-index in
    let below : at < length batches = search rules in
    let more = take_more batches at c.batch-item.result below ∙ ap (λ x. take at batches ++ x ∷ []) (sym c.batch-item.is) in
    let so = c.loop-batch.invariant in
    let learns = c.in_ok-learn_one.ensures {u = tt} in (
      grows_on (suspects_in first) (suspects_in old) (suspects_in new) (users_in first) (users_in old) (users_in new) so.0 learns.0,
      (λ users. subst (KnowsAll (suspects_in new) (users_in new)) (sym more)
          (all_more (suspects_in old) (suspects_in new) (users_in old) (users_in new) (take at batches) c.batch-item.result learns.0
          (learns.1 (users_on K (suspects_in first) (suspects_in old) (users_in first) (users_in old) so.0 users)) (so.1 users))),
    )

pub returns : goal.returns
returns c b watched w is =
    let K = kept_view c.args.kept.now in
    let first = c.args.self in
    let last = c.loop-batch.watch in
    let batches = c.args.batches.now in
    let at = c.loop-batch.batch-index in
    let past : length batches ≤ at = search rules in
    let so = c.loop-batch.invariant in
    let known = subst (KnowsAll (suspects_in last) (users_in last)) (take_whole at batches past) (so.1 (users_of K b (suspects_in first) (users_in first) watched)) in
    let all = watches_all K b batches (suspects_in last) (users_in last)
    (watches_on K b (suspects_in first) (suspects_in last) (users_in first) (users_in last) so.0.suspects so.0.users watched) known in
    let same : last ≡ w = cc in
    subst (Watches (applied K batches) b) same all
