use Rattle.std.proofs.Common.{ℕ, List, Ok, refl, ◌∙◌, subst}
use Rattle.carte_effect.specs.declared.outcome.Made.{Made}
use Rattle.carte_bench.specs.Held.{spots_of}
use Rattle.carte_bench.specs.Spots.{PutAt, slot_after}
use Rattle.carte_progress.proofs.Answered.{on_ok_by}
use Rattle.carte_wave.specs.Front.{line_of, Wakes}
use Rattle.carte_wave.proofs.settle.settle.Goals as goal

pub returns-in_ok-finish_made-in-Ok-clause-settles : goal.returns-in_ok-finish_made-in-Ok-clause-settles
returns-in_ok-finish_made-in-Ok-clause-settles g c =
    let job = c.args.driven.job in
    let m = c.in-Ok.made in
    let key = c.in_ok-key.ensures {u = tt} ∙ c.key.ensures in
    let put = subst (λ (n : Made). PutAt (spots_of c.args.bench.now) (spots_of c.put_back.new.self) (g.R.Job.Job.name job) (slot_after job (Ok n))) (c.in_ok-copy-in-Ok.ensures {u = tt}) c.put_back.ensures.put in
    on_ok_by c.wake.result (λ wakes. record {
      outcome = Ok m;
      is = rw c.in-Ok.is at (c.in_ok-made.ensures {u = tt});
      mid = spots_of c.put_back.new.self;
      put = put;
      settled = ((λ q. refl), subst (λ (k : List ℕ). Wakes k (line_of c.args.front.now) (line_of c.wake.new.self)) key wakes, (c.in_ok-finish_made-in-Ok.ensures {u = tt}).ends);
    }) c.wake.ensures
