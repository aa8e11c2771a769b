use Rattle.std.proofs.Common.{true, Ok, Err, ◌∙◌, ◌+◌, ap, drop, length, map-id, refl, subst, sym}
use Rattle.std.proofs.lemmas.Iterator.Adapters.{YieldsList-from_vec}
use Rattle.std.proofs.lemmas.Iterator.Consumers.{YieldsList-end, YieldsList-so_far, YieldsList-turn}
use Rattle.std.proofs.lemmas.Result.{err_from_is_err_and}
use Rattle.carte_state.specs.Around.{over_disk}
use Rattle.carte_state.specs.States.{any_in}
use Rattle.carte_state.proofs.Runs.{begins_in, cut_behind, unmarked_in}
use Rattle.carte_engine.specs.Committing.{Commits, CommitsAll, PutsAll, is_first}
use Rattle.carte_engine.proofs.Committing.{has_put}
use Rattle.carte_engine.proofs.Looping.{all_put, one_put, one_stopped, so_far_kept, then_later}
use Rattle.carte_engine.proofs.engine.Engine.commit_each.Goals as goal

pub loop-batch-init : goal.loop-batch-init
loop-batch-init g c = record { whole = c.requires.whole; first = refl; so_far = (refl, refl, refl) }

pub commit_one-requires-clause-unmarked : goal.commit_one-requires-clause-unmarked
commit_one-requires-clause-unmarked g c =
    let gives = c.into_iter-batch-iterator.ensures.into_iter_gives in
    let Bs = c.args.batches.items in
    let done = c.loop-batch.yielded in
    let road = YieldsList-from_vec {s = c.into_iter-batch-iterator.result} Bs gives.0 (gives.1 ∙ c.args.batches.ok.0) in
    let turn = YieldsList-turn road done c.loop-batch.batch-iterator c.loop-batch.yielded_by c.next.result c.next.new.self c.in-Some.batch c.in-Some.is c.next.ensures.steps in
    unmarked_in Bs done (drop (length done + 1) Bs) c.in-Some.batch
    (cut_behind Bs done c.in-Some.batch (YieldsList-so_far road done c.loop-batch.batch-iterator c.loop-batch.yielded_by) turn) c.requires.unmarked

pub commit_one-requires-clause-begins : goal.commit_one-requires-clause-begins
commit_one-requires-clause-begins g c =
    let gives = c.into_iter-batch-iterator.ensures.into_iter_gives in
    let Bs = c.args.batches.items in
    let done = c.loop-batch.yielded in
    let road = YieldsList-from_vec {s = c.into_iter-batch-iterator.result} Bs gives.0 (gives.1 ∙ c.args.batches.ok.0) in
    let turn = YieldsList-turn road done c.loop-batch.batch-iterator c.loop-batch.yielded_by c.next.result c.next.new.self c.in-Some.batch c.in-Some.is c.next.ensures.steps in
    begins_in (any_in c.args.self.now) (any_in c.loop-batch.self) Bs done (drop (length done + 1) Bs) c.in-Some.batch
    (cut_behind Bs done c.in-Some.batch (YieldsList-so_far road done c.loop-batch.batch-iterator c.loop-batch.yielded_by) turn)
    (so_far_kept g.D.Disk.tells (g.D.Disk.story c.args.disk.now) (g.D.Disk.story c.loop-batch.disk) (g.D.Disk.faults c.args.disk.now) (g.D.Disk.faults c.loop-batch.disk) c.args.self.now done c.loop-batch.self c.loop-batch.invariant.so_far)
    c.requires.begins

pub loop-batch-preserved : goal.loop-batch-preserved
loop-batch-preserved g c =
    let done = c.loop-batch.yielded in
    let B = c.in-Some.batch in
    let seen = over_disk g.D.Disk.tells g.D.Disk.story g.D.Disk.faults c.loop-batch.disk c.commit_one.new.disk in
    let commits : Commits (is_first done) seen c.loop-batch.self c.commit_one.new.self B (Ok tt) =
    subst (λ t. Commits t seen c.loop-batch.self c.commit_one.new.self B (Ok tt)) c.loop-batch.invariant.first
    (subst (Commits c.loop-batch.first seen c.loop-batch.self c.commit_one.new.self B) c.in_ok-commit_one.was c.commit_one.ensures) in
    record {
      whole = (has_put (is_first done) seen c.loop-batch.self c.commit_one.new.self B commits).whole;
      first = then_later done B;
      so_far = one_put g.D.Disk.tells (g.D.Disk.story c.args.disk.now) (g.D.Disk.story c.loop-batch.disk) (g.D.Disk.story c.commit_one.new.disk)
          (g.D.Disk.faults c.args.disk.now) (g.D.Disk.faults c.loop-batch.disk) (g.D.Disk.faults c.commit_one.new.disk) _
          c.args.self.now done c.loop-batch.self B c.commit_one.new.self c.loop-batch.invariant.so_far commits;
    }

pub returns-in_err-commit_one : goal.returns-in_err-commit_one
returns-in_err-commit_one g c =
    let gives = c.into_iter-batch-iterator.ensures.into_iter_gives in
    let Bs = c.args.batches.items in
    let done = c.loop-batch.yielded in
    let B = c.in-Some.batch in
    let fault = c.in_err-commit_one.field-0.0 in
    let road = YieldsList-from_vec {s = c.into_iter-batch-iterator.result} Bs gives.0 (gives.1 ∙ c.args.batches.ok.0) in
    let turn = YieldsList-turn road done c.loop-batch.batch-iterator c.loop-batch.yielded_by c.next.result c.next.new.self B c.in-Some.is c.next.ensures.steps in
    let all = cut_behind Bs done B (YieldsList-so_far road done c.loop-batch.batch-iterator c.loop-batch.yielded_by) turn in
    let p = err_from_is_err_and c.from_residual.result c.from_residual.ensures.1 in
    let seen = over_disk g.D.Disk.tells g.D.Disk.story g.D.Disk.faults c.loop-batch.disk c.commit_one.new.disk in
    let commits : Commits (is_first done) seen c.loop-batch.self c.commit_one.new.self B (Err fault) =
    subst (λ t. Commits t seen c.loop-batch.self c.commit_one.new.self B (Err fault)) c.loop-batch.invariant.first
    (subst (Commits c.loop-batch.first seen c.loop-batch.self c.commit_one.new.self B) c.in_err-commit_one.was c.commit_one.ensures) in
    subst (CommitsAll (over_disk g.D.Disk.tells g.D.Disk.story g.D.Disk.faults c.args.disk.now c.commit_one.new.disk) c.args.self.now c.commit_one.new.self Bs) (sym (p.1 ∙ ap Err p.2))
    (one_stopped g.D.Disk.tells (g.D.Disk.story c.args.disk.now) (g.D.Disk.story c.loop-batch.disk) (g.D.Disk.story c.commit_one.new.disk)
    (g.D.Disk.faults c.args.disk.now) (g.D.Disk.faults c.loop-batch.disk) (g.D.Disk.faults c.commit_one.new.disk) _
    c.args.self.now done c.loop-batch.self B c.commit_one.new.self c.loop-batch.invariant.so_far _ Bs (drop (length done + 1) Bs) fault all commits)

pub returns : goal.returns
returns g c =
    let gives = c.into_iter-batch-iterator.ensures.into_iter_gives in
    let Bs = c.args.batches.items in
    let done = c.loop-batch.yielded in
    let road = YieldsList-from_vec {s = c.into_iter-batch-iterator.result} Bs gives.0 (gives.1 ∙ c.args.batches.ok.0) in
    let end = YieldsList-end road done c.loop-batch.batch-iterator c.loop-batch.yielded_by c.next.result c.next.new.self c.in-None.is c.next.ensures.steps in
    let d = over_disk g.D.Disk.tells g.D.Disk.story g.D.Disk.faults c.args.disk.now c.loop-batch.disk in
    subst (λ Cs. PutsAll true d c.args.self.now Cs c.loop-batch.self) (sym (map-id done) ∙ end.0)
    (all_put d c.args.self.now done c.loop-batch.self c.loop-batch.invariant.so_far)
