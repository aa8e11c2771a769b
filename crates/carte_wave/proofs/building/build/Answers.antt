use Rattle.std.proofs.Common.{ℕ, List, Some, None, refl, sym, ◌∙◌, subst}
use Rattle.carte_value.specs.Truths.{Among}
use Rattle.carte_book.specs.Book.{Book, book_view}
use Rattle.carte_book.specs.Needs.{IsRule}
use Rattle.carte_record.specs.Kept.{kept_view}
use Rattle.carte_sound.specs.Base.{IsBase}
use Rattle.carte_bench.specs.Held.{spots_of, book_of}
use Rattle.carte_bench.specs.Waits.{onward}
use Rattle.carte_progress.specs.Reasons.{FirstReason}
use Rattle.carte_progress.specs.Standing.{IsDemanded}
use Rattle.carte_progress.proofs.Done.{target_known, none_of}
use Rattle.carte_progress.proofs.Ending.{is_work, targets_clean, targets_reason, each_clean}
use Rattle.carte_progress.proofs.GivenUp.{nothing_given_up, started_once}
use Rattle.carte_wave.specs.Front.{line_of}
use Rattle.carte_wave.specs.Waves.{DemandsEach}
use Rattle.carte_wave.proofs.Builds.{by_waves, going_all}
use Rattle.carte_wave.proofs.Ended.{lined_none, wanted_none}
use Rattle.carte_wave.proofs.Keyed.{done_all}
use Rattle.carte_wave.proofs.building.build.Goals as goal

pub demand_all-requires-clause-lined : goal.demand_all-requires-clause-lined
demand_all-requires-clause-lined g c κs within = lined_none g.R.Job.Job.name (book_view c.args.book.now) (spots_of c.new-bench.result) (line_of c.new-front.result) c.new-bench.ensures.empty c.new-front.ensures

pub demand_all-requires-clause-wanted : goal.demand_all-requires-clause-wanted
demand_all-requires-clause-wanted g c κs within = wanted_none (spots_of c.new-bench.result) (line_of c.new-front.result) c.new-front.ensures

pub returns-in-None-clause-ends : goal.returns-in-None-clause-ends
returns-in-None-clause-ends g c =
    let b = book_view c.args.book.now in
    let K = kept_view c.args.kept.now in
    let h = g.R.Rebuilder.how c.args.rebuilder.now in
    let name = g.R.Job.Job.name in
    let started = g.R.Job.Job.started in
    let fits = g.R.Job.Job.fits in
    let gives = g.R.Job.Job.gives in
    let begun = g.R.Rebuilder.begun c.args.rebuilder.now K b in
    let s0 = spots_of c.new-bench.result in
    let s1 = spots_of c.demand_all.new.bench in
    let s = spots_of c.wave_on.new.bench in
    let w0 = c.in_ok-work.work in
    let w = c.wave_on.new.work in
    let ts = c.args.targets.now in
    let room = c.in_ok-work.ensures {u = tt} in
    let first = c.in_ok-demand_all.ensures {u = tt} in
    let ok = c.in_ok-wave_on.ensures {u = tt} in
    let demands = subst (λ (l : List (List ℕ)). DemandsEach name started gives (λ k j. begun (λ q. None) k j) h b l s0 s1) c.as_slice.ensures first.demands in
    let demanded : (t : List ℕ) → Among ts t → IsRule b t → IsDemanded s t = λ t here is. (let there = first.demanded t (subst (λ (l : List (List ℕ)). Among l t) (sym c.as_slice.ensures) here) is in ok.known t there.0 there.1) in
    let going = λ (H : List Book) (base : IsBase K b H). going_all name started fits gives begun h K b ts (record {
      fits_on = c.job_laws.ensures.fits;
      goes_on = λ t i p part further step q begun_so more is_part gave. g.met.R.Rebuilder.goes_on c.args.rebuilder.now K b H t i p part further step q base begun_so more is_part gave;
      fit = λ t i j begun_so. g.met.R.Rebuilder.fits c.args.rebuilder.now K b H t i j base begun_so;
    }) s0 s1 s w0 w c.new-bench.ensures.empty room.finished room.runs demands ok.waves in
    let told = rw c.in-None.is at (c.in_ok-first_reason.ensures {u = tt}) in
    let reasons = subst (λ (bk : Book). FirstReason (onward bk s) ts (None)) ok.book (subst (λ (l : List (List ℕ)). FirstReason (onward (book_of c.wave_on.new.bench) s) l (None)) c.as_slice-2.ensures told) in (
      ok.chain ∙ room.chain,
      λ given.
          let now = going given.0 given.1 in
          let clean = targets_clean name b s ok.standing fits begun h K ts w.finished now.along demanded ts (λ t here. here) c.wave_on.new.bench.slots.entries (λ q. refl) reasons in (
            clean,
            is_work name b s ok.standing fits begun h K ts w.finished now.along demanded w refl now.counted.ends,
            nothing_given_up name b s ok.standing started fits begun h K ts w.finished w.runs now demanded w refl (each_clean b ts clean),
          ),
    )

pub returns-in-None-clause-waves : goal.returns-in-None-clause-waves
returns-in-None-clause-waves g c =
    let b = book_view c.args.book.now in
    let K = kept_view c.args.kept.now in
    let h = g.R.Rebuilder.how c.args.rebuilder.now in
    let name = g.R.Job.Job.name in
    let started = g.R.Job.Job.started in
    let fits = g.R.Job.Job.fits in
    let gives = g.R.Job.Job.gives in
    let begun = g.R.Rebuilder.begun c.args.rebuilder.now K b in
    let s0 = spots_of c.new-bench.result in
    let s1 = spots_of c.demand_all.new.bench in
    let s = spots_of c.wave_on.new.bench in
    let w0 = c.in_ok-work.work in
    let w = c.wave_on.new.work in
    let ts = c.args.targets.now in
    let room = c.in_ok-work.ensures {u = tt} in
    let first = c.in_ok-demand_all.ensures {u = tt} in
    let ok = c.in_ok-wave_on.ensures {u = tt} in
    let demands = subst (λ (l : List (List ℕ)). DemandsEach name started gives (λ k j. begun (λ q. None) k j) h b l s0 s1) c.as_slice.ensures first.demands in
    let demanded : (t : List ℕ) → Among ts t → IsRule b t → IsDemanded s t = λ t here is. (let there = first.demanded t (subst (λ (l : List (List ℕ)). Among l t) (sym c.as_slice.ensures) here) is in ok.known t there.0 there.1) in
    by_waves name started gives (λ k j. begun (λ q. None) k j) h b ts s0 s1 s w0 w c.new-bench.ensures.empty room.finished room.runs demands ok.waves

pub returns-in-None-clause-targets : goal.returns-in-None-clause-targets
returns-in-None-clause-targets g c =
    let b = book_view c.args.book.now in
    let K = kept_view c.args.kept.now in
    let h = g.R.Rebuilder.how c.args.rebuilder.now in
    let name = g.R.Job.Job.name in
    let started = g.R.Job.Job.started in
    let gives = g.R.Job.Job.gives in
    let keyed = g.R.Job.Job.keyed in
    let begun = g.R.Rebuilder.begun c.args.rebuilder.now K b in
    let s0 = spots_of c.new-bench.result in
    let s1 = spots_of c.demand_all.new.bench in
    let s = spots_of c.wave_on.new.bench in
    let w0 = c.in_ok-work.work in
    let w = c.wave_on.new.work in
    let ts = c.args.targets.now in
    let room = c.in_ok-work.ensures {u = tt} in
    let first = c.in_ok-demand_all.ensures {u = tt} in
    let ok = c.in_ok-wave_on.ensures {u = tt} in
    let demands = subst (λ (l : List (List ℕ)). DemandsEach name started gives (λ k j. begun (λ q. None) k j) h b l s0 s1) c.as_slice.ensures first.demands in
    let demanded : (t : List ℕ) → Among ts t → IsRule b t → IsDemanded s t = λ t here is. (let there = first.demanded t (subst (λ (l : List (List ℕ)). Among l t) (sym c.as_slice.ensures) here) is in ok.known t there.0 there.1) in
    let has = done_all keyed name started gives (λ k j. begun (λ q. None) k j) h b c.job_laws.ensures.keyed (λ k j begun_so. g.met.R.Rebuilder.keyed c.args.rebuilder.now K b (λ q. None) k j begun_so) ts s0 s1 s w0 w c.new-bench.ensures.empty room.finished demands ok.waves in
    let told = rw c.in-None.is at (c.in_ok-first_reason.ensures {u = tt}) in
    let none = subst (λ (bk : Book). FirstReason (onward bk s) ts (None)) ok.book (subst (λ (l : List (List ℕ)). FirstReason (onward (book_of c.wave_on.new.bench) s) l (None)) c.as_slice-2.ensures told) in
    λ t here. target_known keyed name b s w.finished ok.standing c.wave_on.new.bench.slots.entries (λ q. refl) has t (demanded t here) (none_of (onward b s) ts t none here)

pub returns-clause-ends : goal.returns-clause-ends
returns-clause-ends g c =
    let b = book_view c.args.book.now in
    let K = kept_view c.args.kept.now in
    let h = g.R.Rebuilder.how c.args.rebuilder.now in
    let name = g.R.Job.Job.name in
    let started = g.R.Job.Job.started in
    let fits = g.R.Job.Job.fits in
    let gives = g.R.Job.Job.gives in
    let begun = g.R.Rebuilder.begun c.args.rebuilder.now K b in
    let s0 = spots_of c.new-bench.result in
    let s1 = spots_of c.demand_all.new.bench in
    let s = spots_of c.wave_on.new.bench in
    let w0 = c.in_ok-work.work in
    let w = c.wave_on.new.work in
    let ts = c.args.targets.now in
    let room = c.in_ok-work.ensures {u = tt} in
    let first = c.in_ok-demand_all.ensures {u = tt} in
    let ok = c.in_ok-wave_on.ensures {u = tt} in
    let demands = subst (λ (l : List (List ℕ)). DemandsEach name started gives (λ k j. begun (λ q. None) k j) h b l s0 s1) c.as_slice.ensures first.demands in
    let demanded : (t : List ℕ) → Among ts t → IsRule b t → IsDemanded s t = λ t here is. (let there = first.demanded t (subst (λ (l : List (List ℕ)). Among l t) (sym c.as_slice.ensures) here) is in ok.known t there.0 there.1) in
    let going = λ (H : List Book) (base : IsBase K b H). going_all name started fits gives begun h K b ts (record {
      fits_on = c.job_laws.ensures.fits;
      goes_on = λ t i p part further step q begun_so more is_part gave. g.met.R.Rebuilder.goes_on c.args.rebuilder.now K b H t i p part further step q base begun_so more is_part gave;
      fit = λ t i j begun_so. g.met.R.Rebuilder.fits c.args.rebuilder.now K b H t i j base begun_so;
    }) s0 s1 s w0 w c.new-bench.ensures.empty room.finished room.runs demands ok.waves in
    let told = rw c.in-Some.is at (c.in_ok-first_reason.ensures {u = tt}) in
    let reasons = subst (λ (bk : Book). FirstReason (onward bk s) ts (Some c.in-Some.reason)) ok.book (subst (λ (l : List (List ℕ)). FirstReason (onward (book_of c.wave_on.new.bench) s) l (Some c.in-Some.reason)) c.as_slice-2.ensures told) in (
      ok.chain ∙ room.chain,
      λ given.
          let now = going given.0 given.1 in (
            targets_reason name b s ok.standing fits begun h K ts w.finished now.along demanded ts (λ t here. here) c.wave_on.new.bench.slots.entries (λ q. refl) c.in-Some.reason reasons,
            is_work name b s ok.standing fits begun h K ts w.finished now.along demanded w refl now.counted.ends,
            started_once started fits begun h K b ts s w.finished w.runs now w refl,
          ),
    )

pub returns-clause-waves : goal.returns-clause-waves
returns-clause-waves g c =
    let b = book_view c.args.book.now in
    let K = kept_view c.args.kept.now in
    let h = g.R.Rebuilder.how c.args.rebuilder.now in
    let name = g.R.Job.Job.name in
    let started = g.R.Job.Job.started in
    let fits = g.R.Job.Job.fits in
    let gives = g.R.Job.Job.gives in
    let begun = g.R.Rebuilder.begun c.args.rebuilder.now K b in
    let s0 = spots_of c.new-bench.result in
    let s1 = spots_of c.demand_all.new.bench in
    let s = spots_of c.wave_on.new.bench in
    let w0 = c.in_ok-work.work in
    let w = c.wave_on.new.work in
    let ts = c.args.targets.now in
    let room = c.in_ok-work.ensures {u = tt} in
    let first = c.in_ok-demand_all.ensures {u = tt} in
    let ok = c.in_ok-wave_on.ensures {u = tt} in
    let demands = subst (λ (l : List (List ℕ)). DemandsEach name started gives (λ k j. begun (λ q. None) k j) h b l s0 s1) c.as_slice.ensures first.demands in
    let demanded : (t : List ℕ) → Among ts t → IsRule b t → IsDemanded s t = λ t here is. (let there = first.demanded t (subst (λ (l : List (List ℕ)). Among l t) (sym c.as_slice.ensures) here) is in ok.known t there.0 there.1) in
    by_waves name started gives (λ k j. begun (λ q. None) k j) h b ts s0 s1 s w0 w c.new-bench.ensures.empty room.finished room.runs demands ok.waves
