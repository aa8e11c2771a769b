use Rattle.std.proofs.Common.{◌≡◌, ◌+◌, ◌<◌, ◌≤◌, false, Err, refl, sym, ◌∙◌, ◌++◌, ◌∷◌, [], ap, subst, inr}
use Rattle.std.proofs.lemmas.Result.{err_from_is_err_and}
use Rattle.carte_io.specs.Stations.{StepsThrough}
use Rattle.carte_journal.specs.Frames.{Ends}
use Rattle.carte_journal.specs.Journals.{IsAtRest, IsReadAs, Standing, calls_of, committed, needed_for, step_of}
use Rattle.carte_journal.specs.declared.faults.CommitFault.TheVariants.{DiskFault}
use Rattle.carte_record.specs.Bodies.{spelled_batch}
use Rattle.carte_record.specs.Empty.{is_empty}
use Rattle.carte_state.specs.Around.{over_disk}
use Rattle.carte_state.specs.States.{Stand}
use Rattle.carte_state.specs.Versions.{InTwo}
use Rattle.carte_state.specs.Writing.{stand_of}
use Rattle.carte_state.proofs.Applies.{commit_kept, commit_steps}
use Rattle.carte_state.proofs.Putting.{put_none, unframed}
use Rattle.carte_state.proofs.Writing.{lists_behind, lists_view}
use Rattle.carte_state.proofs.state.State.write.Goals as goal

pub returns-then-is_empty-clause-writes : goal.returns-then-is_empty-clause-writes
returns-then-is_empty-clause-writes g c K =
    let d = over_disk g.D.Disk.tells g.D.Disk.story g.D.Disk.faults c.args.disk.now c.args.disk.now in
    let s = stand_of c.args.self.now.journal K in (
      K,
      put_none d s s c.args.next.now (g.met.D.Disk.in_order c.args.disk.now) (record { stand = refl; disk = record { same = refl; story = refl; faults = refl } })
          c.requires.whole tt (sym c.is_empty.ensures ∙ c.if-is_empty.true),
    )

pub returns-in_err-spelled-clause-writes : goal.returns-in_err-spelled-clause-writes
returns-in_err-spelled-clause-writes g c K =
    let d = over_disk g.D.Disk.tells g.D.Disk.story g.D.Disk.faults c.args.disk.now c.args.disk.now in
    let s = stand_of c.args.self.now.journal K in
    let p = err_from_is_err_and c.from_residual.result c.from_residual.ensures.1 in
    rw (p.1 ∙ ap Err p.2) (
      K,
      unframed d s s c.args.next.now (g.met.D.Disk.in_order c.args.disk.now) (record { stand = refl; disk = record { same = refl; story = refl; faults = refl } })
          (sym c.is_empty.ensures ∙ c.if-is_empty.false) c.in_err-spelled.field-0.0
          (λ is. c.in_err-spelled.ensures.disk (ap Err is))
          (λ needed limit is. c.in_err-spelled.ensures.full needed limit (ap Err is)),
    )

pub returns-in-Ok-clause-writes : goal.returns-in-Ok-clause-writes
returns-in-Ok-clause-writes g c K =
    let s = g.D.Disk.story c.args.disk.now in
    let u = g.D.Disk.story c.commit.new.disk in
    let B = c.args.next.now in
    let frame = c.in_ok-spelled.spelled in
    let journal_is = ap (λ (s : Stand). s.journal) c.self.view_is in
    let old = stand_of c.args.self.now.journal K in
    let new = stand_of c.commit.new.self (lists_behind B K) in
    let filled : is_empty B ≡ false = sym c.is_empty.ensures ∙ c.if-is_empty.false in
    let place = c.in-Ok.ensures.place in
    let kept = lists_view B K in (
      lists_behind B K,
      record {
        comes = record {
          room = inr c.in_ok-spelled.ensures.room;
          after = record {
            journal = rw filled (place ∙ ap (λ (j : Standing). committed j frame) journal_is ∙ ap (committed c.args.self.now.journal) c.in_ok-spelled.ensures.frame);
            kept = kept;
            any = rw filled (ap InTwo kept);
            one = refl;
          };
          whole = ap (λ (j : Standing). j.broken) place;
          faults = c.in-Ok.ensures.cause.passed (λ is. cc);
          still = λ empty. absurd (cc);
          calls = λ told. rw filled (c.in-Ok.ensures.calls told ∙ ap (λ (j : Standing). s.now.passed + calls_of j) journal_is);
          rest = λ told on. commit_kept old s on B tt frame c.in_ok-spelled.ensures.fits u new (ap InTwo kept)
              (subst (λ (j : Standing). IsAtRest c.commit.new.self (on.bodies ++ (j.gate, frame) ∷ []) u) journal_is
              (c.in-Ok.ensures.ok told on.bodies (subst (λ j. IsAtRest j on.bodies s) (sym journal_is) on.rest)));
        };
        limit = ap (λ (j : Standing). j.limit) place ∙ ap (λ (j : Standing). j.limit) journal_is;
        steps = λ told on. commit_steps old s on B tt frame c.in_ok-spelled.ensures.fits u filled
            (subst (λ (j : Standing). StepsThrough (IsReadAs j.limit) (Ends j.gate on.bodies) (step_of j on.bodies frame ∷ []) s u) journal_is
            (c.commit.ensures.any_moment told on.bodies (subst (λ j. IsAtRest j on.bodies s) (sym journal_is) on.rest)));
        ordered = g.met.D.Disk.in_order c.commit.new.disk;
      },
    )

pub returns-clause-writes : goal.returns-clause-writes
returns-clause-writes g c K =
    let s = g.D.Disk.story c.args.disk.now in
    let u = g.D.Disk.story c.commit.new.disk in
    let B = c.args.next.now in
    let frame = c.in_ok-spelled.spelled in
    let journal_is = ap (λ (s : Stand). s.journal) c.self.view_is in
    let old = stand_of c.args.self.now.journal K in
    let filled : is_empty B ≡ false = sym c.is_empty.ensures ∙ c.if-is_empty.false in
    let room = subst (λ (j : Standing). needed_for j (spelled_batch B) ≤ j.limit) (sym journal_is) c.in_ok-spelled.ensures.room in
    let only : c.in-Err.refused ≡ DiskFault = c.in-Err.ensures.room (subst (λ body. needed_for c.self.inside.journal body ≤ c.self.inside.journal.limit) (sym c.in_ok-spelled.ensures.frame) room) in
    let broke = c.commit.ensures.fault (c.in-Err.is ∙ ap Err only) in
    rw (c.of.ensures.disk only) (
      K,
      record {
        comes = record {
          filled = filled;
          room = c.in_ok-spelled.ensures.room;
          broken = ap (λ (j : Standing). j.broken) broke;
          later = c.commit.ensures.cause.later;
          rose = c.commit.ensures.cause.failed (c.in-Err.is ∙ ap Err only);
          few = λ told.
              let few = c.in-Err.ensures.fewer told in
              (few.0, rw filled (subst (λ (j : Standing). u.now.passed < s.now.passed + calls_of j) journal_is few.1));
        };
        limit = ap (λ (j : Standing). j.limit) broke ∙ ap (λ (j : Standing). j.limit) journal_is;
        steps = λ told on. commit_steps old s on B tt frame c.in_ok-spelled.ensures.fits u filled
            (subst (λ (j : Standing). StepsThrough (IsReadAs j.limit) (Ends j.gate on.bodies) (step_of j on.bodies frame ∷ []) s u) journal_is
            (c.commit.ensures.any_moment told on.bodies (subst (λ j. IsAtRest j on.bodies s) (sym journal_is) on.rest)));
        ordered = g.met.D.Disk.in_order c.commit.new.disk;
      },
    )
