use Rattle.std.proofs.Common.{◌+◌, ◌∙◌, ◌≡◌, ◌++◌, ap, arith, drop, inl, inr, refl, sym, subst, take}
use Rattle.std.proofs.lemmas.Bool.{cases_lt}
use Rattle.std.proofs.lemmas.List.{take_all}
use Rattle.std.proofs.lemmas.Result.{err_from_is_err_and}
use Rattle.carte_io.specs.Stations.{StepsThrough}
use Rattle.carte_journal.specs.Frames.{Ends}
use Rattle.carte_journal.specs.Journals.{IsAtRest, IsReadAs, Standing, needed_for}
use Rattle.carte_journal.specs.Runs.{placed, steps_of}
use Rattle.carte_journal.specs.declared.faults.CommitFault.TheVariants.{DiskFault, Full}
use Rattle.carte_journal.proofs.ManyCommits.{SoFar, cut_at, ends_in, limit_kept, made_further, none_yet, one_further, one_more, place_further, rests_after, steps_to}
use Rattle.carte_journal.proofs.many.commit_all.Goals as goal

pub loop-frame-init : goal.loop-frame-init
loop-frame-init g c = record {
  whole = c.requires;
  place = refl;
  same = refl;
  made = λ told. omega arith;
  so_far = λ told bodies rest. none_yet c.args.journal.now bodies (g.D.Disk.story c.args.disk.now) rest;
}

pub returns-in_err-commit-clause-full : goal.returns-in_err-commit-clause-full
returns-in_err-commit-clause-full g c needed limit is =
    let p = err_from_is_err_and c.from_residual.result c.from_residual.ensures.1 in
    let fault_is : c.in_err-commit.field-0.0 ≡ Full needed limit = cc (p.1, p.2, is) in
    let body = c.frame-item.result in
    let j = c.loop-frame.journal in
    elim (cases_lt j.limit (needed_for j body)) [
      | inl over ↦
          let f = c.in_err-commit.ensures.full over in
          let both : Full needed limit ≡ Full (needed_for j body) j.limit = cc (f.0, fault_is) in
          let needed_is : needed ≡ needed_for j body = cc in
          let limit_is : limit ≡ j.limit = cc in
          record {
            done = take c.loop-frame.frame-index c.args.frames.now;
            next = body;
            rest = drop (c.loop-frame.frame-index + 1) c.args.frames.now;
            all = cut_at c.args.frames.now c.loop-frame.frame-index body c.loop-frame-test.true c.frame-item.is;
            place = f.1 ∙ c.loop-frame.invariant.place;
            needed_is = needed_is ∙ ap (λ k. needed_for k body) (sym f.1);
            limit_is = limit_is ∙ ap (λ (k : Standing). k.limit) c.loop-frame.invariant.place
                ∙ limit_kept c.args.journal.now (take c.loop-frame.frame-index c.args.frames.now);
            over = omega (arith, over, needed_is, limit_is);
          }
      | inr room ↦
          absurd (let other : c.in_err-commit.field-0.0 ≡ DiskFault = c.in_err-commit.ensures.room room in
          let both : Full needed limit ≡ DiskFault = sym fault_is ∙ other in cc)
    ]

pub returns-in_err-commit-clause-full_rest : goal.returns-in_err-commit-clause-full_rest
returns-in_err-commit-clause-full_rest g c told bodies rest needed limit is =
    let p = err_from_is_err_and c.from_residual.result c.from_residual.ensures.1 in
    let fault_is : c.in_err-commit.field-0.0 ≡ Full needed limit = cc (p.1, p.2, is) in
    let body = c.frame-item.result in
    let j = c.loop-frame.journal in
    let so = c.loop-frame.invariant.so_far told bodies rest in
    elim (cases_lt j.limit (needed_for j body)) [
      | inl over ↦
          let f = c.in_err-commit.ensures.full over in
          rests_after c.args.journal.now j _ bodies c.args.frames.now c.loop-frame.frame-index _ _ _ so f.1 (ap g.D.Disk.story f.2)
      | inr room ↦
          absurd (let other : c.in_err-commit.field-0.0 ≡ DiskFault = c.in_err-commit.ensures.room room in
          let both : Full needed limit ≡ DiskFault = sym fault_is ∙ other in cc)
    ]

pub returns-in_err-commit-clause-ends : goal.returns-in_err-commit-clause-ends
returns-in_err-commit-clause-ends g c told =
    let p = err_from_is_err_and c.from_residual.result c.from_residual.ensures.1 in
    let some = c.in_err-commit.ensures.fewer told in
    rw p.1 (ends_in c.args.journal.now c.loop-frame.journal c.args.frames.now c.loop-frame.frame-index c.frame-item.result c.loop-frame-test.true c.frame-item.is
    c.loop-frame.invariant.place _ _ _ (c.loop-frame.invariant.made told) some.0 some.1)

pub returns-in_err-commit-clause-steps : goal.returns-in_err-commit-clause-steps
returns-in_err-commit-clause-steps g c told bodies rest =
    let so = c.loop-frame.invariant.so_far told bodies rest in
    let j = c.args.journal.now in
    let s = g.D.Disk.story c.args.disk.now in
    let t = g.D.Disk.story c.loop-frame.disk in
    let u = g.D.Disk.story c.commit.new.disk in
    let done = take c.loop-frame.frame-index c.args.frames.now in
    let back = drop (c.loop-frame.frame-index + 1) c.args.frames.now in
    subst (λ bs. StepsThrough (IsReadAs j.limit) (Ends j.gate bodies) (steps_of j bodies bs) s u)
    (sym (cut_at c.args.frames.now c.loop-frame.frame-index c.frame-item.result c.loop-frame-test.true c.frame-item.is))
    (steps_to j bodies done c.frame-item.result s t u c.loop-frame.journal so (g.met.D.Disk.in_order c.commit.new.disk told)
    (c.commit.ensures.any_moment told _ so.rest) back (c.in_err-commit.ensures.fewer told).1)

pub loop-frame-preserved : goal.loop-frame-preserved
loop-frame-preserved g c = record {
  whole = ap (λ (j : Standing). j.broken) c.in_ok-commit.ensures.place;
  place = place_further c.args.journal.now c.loop-frame.journal c.args.frames.now c.loop-frame.frame-index c.frame-item.result
      c.loop-frame-test.true c.frame-item.is c.loop-frame.invariant.place c.commit.new.self c.in_ok-commit.ensures.place;
  same = c.in_ok-commit.ensures.cause.passed (λ never. absurd (cc)) ∙ c.loop-frame.invariant.same;
  made = λ told. made_further c.args.journal.now c.loop-frame.journal c.args.frames.now c.loop-frame.frame-index c.frame-item.result
      c.loop-frame-test.true c.frame-item.is c.loop-frame.invariant.place _ _ _ (c.loop-frame.invariant.made told) (c.in_ok-commit.ensures.calls told);
  so_far = λ told bodies rest.
      let so = c.loop-frame.invariant.so_far told bodies rest in
      subst (λ done. SoFar c.args.journal.now bodies done c.commit.new.self (g.D.Disk.story c.args.disk.now) (g.D.Disk.story c.commit.new.disk))
      (sym (one_further c.args.frames.now c.loop-frame.frame-index c.frame-item.result c.loop-frame-test.true c.frame-item.is))
      (one_more c.args.journal.now bodies _ c.frame-item.result _ (g.D.Disk.story c.loop-frame.disk) _ c.loop-frame.journal so
      (g.met.D.Disk.in_order c.commit.new.disk told) (c.commit.ensures.any_moment told _ so.rest)
      c.commit.new.self c.in_ok-commit.ensures.place (c.in_ok-commit.ensures.ok told _ so.rest) (c.in_ok-commit.ensures.calls told));
}

pub returns-clause-rest : goal.returns-clause-rest
returns-clause-rest g c told bodies rest =
    let so = c.loop-frame.invariant.so_far told bodies rest in
    subst (λ bs. IsAtRest c.loop-frame.journal (bodies ++ placed c.args.journal.now bs) (g.D.Disk.story c.loop-frame.disk))
    (take_all c.loop-frame.frame-index c.args.frames.now c.loop-frame-test.false) so.rest

pub returns-clause-steps : goal.returns-clause-steps
returns-clause-steps g c told bodies rest =
    let j = c.args.journal.now in
    subst (λ bs. StepsThrough (IsReadAs j.limit) (Ends j.gate bodies) (steps_of j bodies bs) (g.D.Disk.story c.args.disk.now) (g.D.Disk.story c.loop-frame.disk))
    (take_all c.loop-frame.frame-index c.args.frames.now c.loop-frame-test.false) (c.loop-frame.invariant.so_far told bodies rest).steps
