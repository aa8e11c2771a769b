use Rattle.std.proofs.Common.{◌≡◌, ◌++◌, Ok, ap, sym, ◌∙◌}
use Rattle.carte_effect.specs.Ledger.{with_later}
use Rattle.carte_wave.proofs.Drives.{passed_end, driven_end, runs_end}
use Rattle.carte_wave.proofs.running.gather.Goals as goal

pub loop-wave-preserved : goal.loop-wave-preserved
loop-wave-preserved g c =
    let rs = c.loop-wave.yielded in
    let w = c.in_ok-wave.field-0 in
    let is : c.in-Some.wave ≡ Ok w = c.in_ok-wave.was in
    let before = c.loop-wave.invariant in
    rw is (record {
      passed = passed_end rs w before.passed;
      driven = (c.in_ok-append.ensures {u = tt}).driven ∙ ap (λ l. l ++ w.driven.items) before.driven ∙ sym (driven_end rs w);
      runs = (c.in_ok-append.ensures {u = tt}).runs ∙ ap (λ l. with_later l w.runs) before.runs ∙ sym (runs_end rs w);
    })
