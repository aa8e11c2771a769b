use Rattle.std.proofs.Common.{◌≡◌, Ok, Err, ◌∙◌, ◌+◌, ap, arith, drop, length, refl, subst, sym}
use Rattle.std.specs.Prelude.{IsTrue, ◌↔◌}
use Rattle.std.proofs.lemmas.Iterator.Adapters.{YieldsList-from_vec}
use Rattle.std.proofs.lemmas.Iterator.Consumers.{YieldsList-so_far, YieldsList-turn}
use Rattle.std.proofs.lemmas.Result.{err_from_is_err_and}
use Rattle.carte_state.specs.Around.{over_disk}
use Rattle.carte_io.specs.Causes.{HasCauseOf}
use Rattle.carte_io.specs.Stations.{StepsThrough}
use Rattle.carte_journal.specs.Journals.{Standing}
use Rattle.carte_state.specs.Applying.{Comes}
use Rattle.carte_state.specs.Folding.{Keeps}
use Rattle.carte_state.specs.States.{any_in, kept_in, step_for}
use Rattle.carte_state.specs.declared.fault.ApplyFault.TheVariants.{DiskFault}
use Rattle.carte_state.proofs.Putting.{broken_by, cause_by, few_by}
use Rattle.carte_state.proofs.Runs.{any_further, begins_in, cut_behind, ends_in, kept_further, made_further, none_yet, one_more, place_further, steps_to, unmarked_in, whole_after}
use Rattle.carte_state.proofs.many.apply_all.Goals as goal

pub loop-batch-init : goal.loop-batch-init
loop-batch-init g c = record {
  whole = c.requires.whole;
  place = refl;
  kept = refl;
  any = refl;
  limit = refl;
  same = refl;
  made = λ told. omega arith;
  so_far = λ told on. none_yet c.args.state.now (g.D.Disk.story c.args.disk.now) on;
}

pub apply-requires-clause-unmarked : goal.apply-requires-clause-unmarked
apply-requires-clause-unmarked g c =
    let gives = c.into_iter-batch-iterator.ensures.into_iter_gives in
    let Bs = c.args.batches.items in
    let done = c.loop-batch.yielded in
    let road = YieldsList-from_vec {s = c.into_iter-batch-iterator.result} Bs gives.0 (gives.1 ∙ c.args.batches.ok.0) in
    let turn = YieldsList-turn road done c.loop-batch.batch-iterator c.loop-batch.yielded_by c.next.result c.next.new.self c.in-Some.batch c.in-Some.is c.next.ensures.steps in
    unmarked_in Bs done (drop (length done + 1) Bs) c.in-Some.batch
    (cut_behind Bs done c.in-Some.batch (YieldsList-so_far road done c.loop-batch.batch-iterator c.loop-batch.yielded_by) turn) c.requires.unmarked

pub apply-requires-clause-begins : goal.apply-requires-clause-begins
apply-requires-clause-begins g c =
    let gives = c.into_iter-batch-iterator.ensures.into_iter_gives in
    let Bs = c.args.batches.items in
    let done = c.loop-batch.yielded in
    let road = YieldsList-from_vec {s = c.into_iter-batch-iterator.result} Bs gives.0 (gives.1 ∙ c.args.batches.ok.0) in
    let turn = YieldsList-turn road done c.loop-batch.batch-iterator c.loop-batch.yielded_by c.next.result c.next.new.self c.in-Some.batch c.in-Some.is c.next.ensures.steps in
    begins_in (any_in c.args.state.now) (any_in c.loop-batch.state) Bs done (drop (length done + 1) Bs) c.in-Some.batch
    (cut_behind Bs done c.in-Some.batch (YieldsList-so_far road done c.loop-batch.batch-iterator c.loop-batch.yielded_by) turn) c.loop-batch.invariant.any c.requires.begins

pub returns-in_err-apply-clause-ends : goal.returns-in_err-apply-clause-ends
returns-in_err-apply-clause-ends g c told =
    let gives = c.into_iter-batch-iterator.ensures.into_iter_gives in
    let Bs = c.args.batches.items in
    let done = c.loop-batch.yielded in
    let road = YieldsList-from_vec {s = c.into_iter-batch-iterator.result} Bs gives.0 (gives.1 ∙ c.args.batches.ok.0) in
    let turn = YieldsList-turn road done c.loop-batch.batch-iterator c.loop-batch.yielded_by c.next.result c.next.new.self c.in-Some.batch c.in-Some.is c.next.ensures.steps in
    let all = cut_behind Bs done c.in-Some.batch (YieldsList-so_far road done c.loop-batch.batch-iterator c.loop-batch.yielded_by) turn in
    let p = err_from_is_err_and c.from_residual.result c.from_residual.ensures.1 in
    let seen = over_disk g.D.Disk.tells g.D.Disk.story g.D.Disk.faults c.loop-batch.disk c.apply.new.disk in
    let fault = c.in_err-apply.field-0.0 in
    let some = few_by seen c.loop-batch.state c.apply.new.self c.in-Some.batch told fault (subst (Comes seen c.loop-batch.state c.apply.new.self c.in-Some.batch) c.in_err-apply.was c.apply.ensures.comes) in
    rw p.1 (ends_in c.args.state.now.journal.limit c.args.state.now.journal (any_in c.args.state.now) done c.in-Some.batch
    c.loop-batch.state c.loop-batch.invariant.place c.loop-batch.invariant.any
    Bs (drop (length done + 1) Bs) all _ _ _ (c.loop-batch.invariant.made told) some.0 some.1)

pub returns-in_err-apply-clause-steps : goal.returns-in_err-apply-clause-steps
returns-in_err-apply-clause-steps g c told on =
    let gives = c.into_iter-batch-iterator.ensures.into_iter_gives in
    let Bs = c.args.batches.items in
    let done = c.loop-batch.yielded in
    let road = YieldsList-from_vec {s = c.into_iter-batch-iterator.result} Bs gives.0 (gives.1 ∙ c.args.batches.ok.0) in
    let turn = YieldsList-turn road done c.loop-batch.batch-iterator c.loop-batch.yielded_by c.next.result c.next.new.self c.in-Some.batch c.in-Some.is c.next.ensures.steps in
    let all = cut_behind Bs done c.in-Some.batch (YieldsList-so_far road done c.loop-batch.batch-iterator c.loop-batch.yielded_by) turn in
    let so = c.loop-batch.invariant.so_far told on in
    let seen = over_disk g.D.Disk.tells g.D.Disk.story g.D.Disk.faults c.loop-batch.disk c.apply.new.disk in
    let fault = c.in_err-apply.field-0.0 in
    let some = few_by seen c.loop-batch.state c.apply.new.self c.in-Some.batch told fault (subst (Comes seen c.loop-batch.state c.apply.new.self c.in-Some.batch) c.in_err-apply.was c.apply.ensures.comes) in
    steps_to c.args.state.now.journal.limit c.args.state.now.journal (any_in c.args.state.now) done c.in-Some.batch
    c.loop-batch.state c.loop-batch.invariant.place c.loop-batch.invariant.any
    (g.D.Disk.story c.args.disk.now) (g.D.Disk.story c.loop-batch.disk) (g.D.Disk.story c.apply.new.disk) so (g.met.D.Disk.in_order c.apply.new.disk told)
    (subst (λ l. StepsThrough (Keeps l) (any_in c.loop-batch.state) (step_for c.loop-batch.state.journal (any_in c.loop-batch.state) c.in-Some.batch)
    (g.D.Disk.story c.loop-batch.disk) (g.D.Disk.story c.apply.new.disk)) c.loop-batch.invariant.limit (c.apply.ensures.steps told so.on))
    Bs (drop (length done + 1) Bs) all some.1

pub returns-in_err-apply-clause-broken : goal.returns-in_err-apply-clause-broken
returns-in_err-apply-clause-broken g c =
    let p = err_from_is_err_and c.from_residual.result c.from_residual.ensures.1 in
    let seen = over_disk g.D.Disk.tells g.D.Disk.story g.D.Disk.faults c.loop-batch.disk c.apply.new.disk in
    subst (λ r. IsTrue c.apply.new.self.journal.broken ↔ (r ≡ Err DiskFault)) (c.in_err-apply.was ∙ sym (ap Err p.2) ∙ sym p.1)
    (broken_by seen c.loop-batch.state c.apply.new.self c.in-Some.batch c.loop-batch.invariant.whole c.apply.result c.apply.ensures.comes)

pub returns-in_err-apply-clause-cause : goal.returns-in_err-apply-clause-cause
returns-in_err-apply-clause-cause g c =
    let p = err_from_is_err_and c.from_residual.result c.from_residual.ensures.1 in
    let seen = over_disk g.D.Disk.tells g.D.Disk.story g.D.Disk.faults c.loop-batch.disk c.apply.new.disk in
    subst (λ r. HasCauseOf DiskFault (g.D.Disk.faults c.args.disk.now) (g.D.Disk.faults c.apply.new.disk) r) (c.in_err-apply.was ∙ sym (ap Err p.2) ∙ sym p.1)
    (subst (λ n. HasCauseOf DiskFault n (g.D.Disk.faults c.apply.new.disk) c.apply.result) c.loop-batch.invariant.same
    (cause_by seen c.loop-batch.state c.apply.new.self c.in-Some.batch c.apply.result c.apply.ensures.comes))

pub loop-batch-preserved : goal.loop-batch-preserved
loop-batch-preserved g c =
    let l = c.args.state.now.journal.limit in
    let j = c.args.state.now.journal in
    let K = any_in c.args.state.now in
    let done = c.loop-batch.yielded in
    let B = c.in-Some.batch in
    let now = c.loop-batch.state in
    let seen = over_disk g.D.Disk.tells g.D.Disk.story g.D.Disk.faults c.loop-batch.disk c.apply.new.disk in
    let puts : Comes seen now c.apply.new.self B (Ok tt) = subst (Comes seen now c.apply.new.self B) c.in_ok-apply.was c.apply.ensures.comes in
    record {
      whole = ap (λ (k : Standing). k.broken) puts.after.journal ∙ whole_after now.journal B c.loop-batch.invariant.whole;
      place = place_further l j K done B now c.loop-batch.invariant.place c.loop-batch.invariant.any
          c.apply.new.self.journal puts.after.journal;
      kept = kept_further (kept_in c.args.state.now) done B (kept_in now) (kept_in c.apply.new.self) c.loop-batch.invariant.kept puts.after.kept;
      any = any_further l j K done B now c.loop-batch.invariant.place c.loop-batch.invariant.any (any_in c.apply.new.self) puts.after.any;
      limit = c.apply.ensures.limit ∙ c.loop-batch.invariant.limit;
      same = puts.faults ∙ c.loop-batch.invariant.same;
      made = λ told. made_further l j K done B now c.loop-batch.invariant.place c.loop-batch.invariant.any
          _ _ _ (c.loop-batch.invariant.made told) (puts.calls told);
      so_far = λ told on.
          let so = c.loop-batch.invariant.so_far told on in
          one_more l j K done B now c.loop-batch.invariant.place c.loop-batch.invariant.any
          (g.D.Disk.story c.args.disk.now) (g.D.Disk.story c.loop-batch.disk) (g.D.Disk.story c.apply.new.disk) so (g.met.D.Disk.in_order c.apply.new.disk told)
          (subst (λ l. StepsThrough (Keeps l) (any_in now) (step_for now.journal (any_in now) B) (g.D.Disk.story c.loop-batch.disk) (g.D.Disk.story c.apply.new.disk))
          c.loop-batch.invariant.limit (c.apply.ensures.steps told so.on))
          c.apply.new.self (puts.rest told so.on) (puts.calls told);
    }
