use Rattle.std.proofs.Common.{◌≡◌, ◌≤◌, Err, refl, ◌∙◌, ap, inl, inr}
use Rattle.std.proofs.lemmas.Bool.{cases_lt}
use Rattle.std.proofs.lemmas.Result.{err_from_is_err_and}
use Rattle.carte_journal.specs.Regions.{region_end}
use Rattle.carte_journal.specs.declared.faults.CommitFault.TheVariants as commit
use Rattle.carte_state.specs.Applying.{IsStill}
use Rattle.carte_state.specs.Around.{over_disk}
use Rattle.carte_state.specs.declared.fault.ApplyFault.TheVariants.{NoMemory}
use Rattle.carte_compact.proofs.Rewritten.{broken, crammed, passed, region_for, unmoved}
use Rattle.carte_compact.proofs.rewriting.rewrite.Goals as goal

pub rewrite-requires-clause-alike : goal.rewrite-requires-clause-alike
rewrite-requires-clause-alike g c = region_for c.args.state.now c.in_ok-region.region (c.in_ok-region.ensures {u = tt})

pub rewrite-requires-clause-planned : goal.rewrite-requires-clause-planned
rewrite-requires-clause-planned g c = let live = c.in_ok-region.ensures {u = tt} in live.planned

pub returns-in_err-region : goal.returns-in_err-region
returns-in_err-region g c =
    let d = over_disk g.D.Disk.tells g.D.Disk.story g.D.Disk.faults c.args.disk.now c.args.disk.now in
    let p = err_from_is_err_and c.from_residual.result c.from_residual.ensures.1 in
    let still : IsStill d c.args.state.now c.args.state.now = record { stand = refl; disk = record { same = refl; story = refl; faults = refl } } in
    rw (p.1 ∙ ap Err p.2) (unmoved d c.args.state.now c.args.state.now (g.met.D.Disk.in_order c.args.disk.now) still (Err NoMemory) still)

pub returns-in-Ok : goal.returns-in-Ok
returns-in-Ok g c =
    let d = over_disk g.D.Disk.tells g.D.Disk.story g.D.Disk.faults c.args.disk.now c.rewrite.new.disk in
    let old = c.args.state.now in
    let p = c.in_ok-region.region in
    let room : region_end p ≤ old.journal.limit = elim (cases_lt old.journal.limit (region_end p)) [
      | inl over ↦ let full = c.rewrite.ensures.full over in absurd (cc)
      | inr room ↦ room
    ] in
    passed d old c.rewrite.new.self (g.met.D.Disk.in_order c.rewrite.new.disk) p (c.in_ok-region.ensures {u = tt}) room (λ told on. c.rewrite.ensures.steps told on)
    c.requires.whole c.in-Ok.ensures.place (c.in-Ok.ensures.cause.passed (λ is. cc)) (λ told. c.in-Ok.ensures.calls told) (λ told on. c.in-Ok.ensures.rest told on)

pub returns : goal.returns
returns g c =
    let d = over_disk g.D.Disk.tells g.D.Disk.story g.D.Disk.faults c.args.disk.now c.rewrite.new.disk in
    let old = c.args.state.now in
    let p = c.in_ok-region.region in
    let live = c.in_ok-region.ensures {u = tt} in
    let ordered = g.met.D.Disk.in_order c.rewrite.new.disk in
    elim (cases_lt old.journal.limit (region_end p)) [
      | inl over ↦
          let full = c.rewrite.ensures.full over in
          let fault : c.in-Err.fault ≡ commit.Full (region_end p) old.journal.limit = cc (c.in-Err.is, full.0) in
          rw (c.of.ensures.full (region_end p) old.journal.limit fault)
          (crammed d old c.rewrite.new.self ordered p live over
          (record { stand = full.1; disk = record { same = full.2; story = ap g.D.Disk.story full.2; faults = ap g.D.Disk.faults full.2 } }))
      | inr room ↦
          let fault : c.in-Err.fault ≡ commit.DiskFault = c.in-Err.ensures.room room in
          let is = c.in-Err.is ∙ ap Err fault in
          rw (c.of.ensures.disk fault)
          (broken d old c.rewrite.new.self ordered p live room (λ told on. c.rewrite.ensures.steps told on) (c.rewrite.ensures.fault is)
          c.rewrite.ensures.cause.later (c.rewrite.ensures.cause.failed is) (λ told. c.in-Err.ensures.fewer told))
    ]
