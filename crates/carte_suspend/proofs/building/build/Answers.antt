use Rattle.std.proofs.Common.{ℕ, List, Some, None, refl, sym, ◌∙◌, subst}
use Rattle.carte_value.specs.Truths.{Among}
use Rattle.carte_book.specs.Book.{Book, book_view}
use Rattle.carte_book.specs.Needs.{IsRule}
use Rattle.carte_record.specs.Kept.{kept_view}
use Rattle.carte_sound.specs.Base.{IsBase}
use Rattle.carte_bench.specs.Held.{spots_of, book_of}
use Rattle.carte_bench.specs.Waits.{onward}
use Rattle.carte_progress.specs.Counted.{IsGoing}
use Rattle.carte_progress.specs.Progress.{HasDone}
use Rattle.carte_progress.specs.Reasons.{FirstReason}
use Rattle.carte_progress.specs.Standing.{IsDemanded}
use Rattle.carte_progress.proofs.Goings.{going_none}
use Rattle.carte_progress.proofs.Done.{done_none, target_known, none_of}
use Rattle.carte_progress.proofs.Ending.{is_work, targets_clean, targets_reason, each_clean}
use Rattle.carte_progress.proofs.GivenUp.{nothing_given_up, started_once}
use Rattle.carte_suspend.proofs.building.build.Goals as goal

pub returns-in-None-clause-ends : goal.returns-in-None-clause-ends
returns-in-None-clause-ends g c =
    let b = book_view c.args.book.now in
    let K = kept_view c.args.kept.now in
    let h = g.R.Rebuilder.how c.args.rebuilder.now in
    let name = g.R.Job.Job.name in
    let started = g.R.Job.Job.started in
    let fits = g.R.Job.Job.fits in
    let begun = g.R.Rebuilder.begun c.args.rebuilder.now K b in
    let s = spots_of c.treat_all.new.bench in
    let w = c.treat_all.new.work in
    let ts = c.args.targets.now in
    let ok = c.in_ok-treat_all.ensures {u = tt} in
    let demanded = subst (λ (l : List (List ℕ)). (t : List ℕ) → Among l t → IsRule b t → IsDemanded s t) c.as_slice.ensures ok.demanded in
    let going = λ (H : List Book) (base : IsBase K b H). subst (λ (l : List (List ℕ)). IsGoing started fits begun h K b l s w.finished w.runs) c.as_slice.ensures
    (ok.goes H base (rw ((c.in_ok-work.ensures {u = tt}).finished, (c.in_ok-work.ensures {u = tt}).runs) (going_none started fits begun h K b c.as_slice.result.now (spots_of c.new-bench.result) c.new-bench.ensures.empty))) in
    let asked = rw c.in-None.is at (c.in_ok-first_reason.ensures {u = tt}) in
    let first = subst (λ (bk : Book). FirstReason (onward bk s) ts (None)) ok.book (subst (λ (l : List (List ℕ)). FirstReason (onward (book_of c.treat_all.new.bench) s) l (None)) c.as_slice-2.ensures asked) in (
      ok.chain ∙ (c.in_ok-work.ensures {u = tt}).chain,
      λ given.
          let now = going given.0 given.1 in
          let clean = targets_clean name b s ok.standing fits begun h K ts w.finished now.along demanded ts (λ t here. here) c.treat_all.new.bench.slots.entries (λ q. refl) first in (
            clean,
            is_work name b s ok.standing fits begun h K ts w.finished now.along demanded w refl now.counted.ends,
            nothing_given_up name b s ok.standing started fits begun h K ts w.finished w.runs now demanded w refl (each_clean b ts clean),
          ),
    )

pub returns-in-None-clause-targets : goal.returns-in-None-clause-targets
returns-in-None-clause-targets g c =
    let b = book_view c.args.book.now in
    let s = spots_of c.treat_all.new.bench in
    let w = c.treat_all.new.work in
    let ts = c.args.targets.now in
    let ok = c.in_ok-treat_all.ensures {u = tt} in
    let demanded = subst (λ (l : List (List ℕ)). (t : List ℕ) → Among l t → IsRule b t → IsDemanded s t) c.as_slice.ensures ok.demanded in
    let asked = rw c.in-None.is at (c.in_ok-first_reason.ensures {u = tt}) in
    let none = subst (λ (bk : Book). FirstReason (onward bk s) ts (None)) ok.book (subst (λ (l : List (List ℕ)). FirstReason (onward (book_of c.treat_all.new.bench) s) l (None)) c.as_slice-2.ensures asked) in
    let has = ok.done (subst (HasDone g.R.Job.Job.keyed (spots_of c.new-bench.result)) (sym (c.in_ok-work.ensures {u = tt}).finished) (done_none g.R.Job.Job.keyed (spots_of c.new-bench.result) c.new-bench.ensures.empty)) in
    λ t here. target_known g.R.Job.Job.keyed g.R.Job.Job.name b s w.finished ok.standing c.treat_all.new.bench.slots.entries (λ q. refl) has t (demanded t here) (none_of (onward b s) ts t none here)

pub returns-clause-ends : goal.returns-clause-ends
returns-clause-ends g c =
    let b = book_view c.args.book.now in
    let K = kept_view c.args.kept.now in
    let h = g.R.Rebuilder.how c.args.rebuilder.now in
    let name = g.R.Job.Job.name in
    let started = g.R.Job.Job.started in
    let fits = g.R.Job.Job.fits in
    let begun = g.R.Rebuilder.begun c.args.rebuilder.now K b in
    let s = spots_of c.treat_all.new.bench in
    let w = c.treat_all.new.work in
    let ts = c.args.targets.now in
    let ok = c.in_ok-treat_all.ensures {u = tt} in
    let demanded = subst (λ (l : List (List ℕ)). (t : List ℕ) → Among l t → IsRule b t → IsDemanded s t) c.as_slice.ensures ok.demanded in
    let going = λ (H : List Book) (base : IsBase K b H). subst (λ (l : List (List ℕ)). IsGoing started fits begun h K b l s w.finished w.runs) c.as_slice.ensures
    (ok.goes H base (rw ((c.in_ok-work.ensures {u = tt}).finished, (c.in_ok-work.ensures {u = tt}).runs) (going_none started fits begun h K b c.as_slice.result.now (spots_of c.new-bench.result) c.new-bench.ensures.empty))) in
    let asked = rw c.in-Some.is at (c.in_ok-first_reason.ensures {u = tt}) in
    let first = subst (λ (bk : Book). FirstReason (onward bk s) ts (Some c.in-Some.reason)) ok.book (subst (λ (l : List (List ℕ)). FirstReason (onward (book_of c.treat_all.new.bench) s) l (Some c.in-Some.reason)) c.as_slice-2.ensures asked) in (
      ok.chain ∙ (c.in_ok-work.ensures {u = tt}).chain,
      λ given.
          let now = going given.0 given.1 in (
            targets_reason name b s ok.standing fits begun h K ts w.finished now.along demanded ts (λ t here. here) c.treat_all.new.bench.slots.entries (λ q. refl) c.in-Some.reason first,
            is_work name b s ok.standing fits begun h K ts w.finished now.along demanded w refl now.counted.ends,
            started_once started fits begun h K b ts s w.finished w.runs now w refl,
          ),
    )
