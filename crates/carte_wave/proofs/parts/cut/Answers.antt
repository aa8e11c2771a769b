use Rattle.std.proofs.Common.{◌≡◌, ◌++◌, ◌-◌, ◌+◌, length, arith, length-append, ap, ◌∙◌, append_assoc}
use Rattle.carte_wave.specs.Parts.{jobs_in}
use Rattle.carte_wave.proofs.Drives.{jobs_end}
use Rattle.carte_wave.proofs.parts.cut.Goals as goal

pub loop-number-preserved : goal.loop-number-preserved
loop-number-preserved g c =
    let ps = c.loop-number.parts.items in
    let front = c.in_ok-front.front in
    let pushed : jobs_in c.push.new.self.items ≡ jobs_in ps ++ front.items = ap jobs_in (rw c.in_ok-push.was at c.push.ensures.items) ∙ jobs_end ps (record { number = c.loop-number.number; jobs = front }) in
    let grown : length c.push.new.self.items ≡ length ps + 1 = ap length (rw c.in_ok-push.was at c.push.ensures.items) ∙ length-append ps _ in
    record {
      jobs = ap (λ l. l ++ c.front.new.jobs.items) pushed ∙ append_assoc (jobs_in ps) front.items c.front.new.jobs.items ∙ ap (λ l. jobs_in ps ++ l) c.in_ok-front.ensures ∙ c.loop-number.invariant.jobs;
      count = omega (arith, grown, c.loop-number.invariant.count);
    }

pub returns-clause-jobs : goal.returns-clause-jobs
returns-clause-jobs g c =
    let ps = c.loop-number.parts.items in
    ap jobs_in (rw c.in_ok-push-2.was at c.push-2.ensures.items) ∙ jobs_end ps (record { number = c.args.count - 1; jobs = c.loop-number.jobs }) ∙ c.loop-number.invariant.jobs

pub returns-clause-count : goal.returns-clause-count
returns-clause-count g c =
    let ps = c.loop-number.parts.items in
    let grown : length c.push-2.new.self.items ≡ length ps + 1 = ap length (rw c.in_ok-push-2.was at c.push-2.ensures.items) ∙ length-append ps _ in
    omega (arith, grown, c.loop-number.invariant.count, c.loop-number-test.false, c.loop-number.auto.number-end, c.requires)
