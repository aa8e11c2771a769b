use Rattle.std.proofs.Common.{ℕ, List, [], ◌++◌, Some, None, refl, sym, subst}
use Rattle.carte_value.specs.Truths.{Among}
use Rattle.carte_value.proofs.Members.{among_left, among_right}
use Rattle.carte_book.specs.Book.{Book, book_view}
use Rattle.carte_book.specs.Needs.{IsRule}
use Rattle.carte_record.specs.Kept.{kept_view}
use Rattle.carte_sound.specs.Base.{IsBase}
use Rattle.carte_bench.specs.Held.{spots_of, book_of}
use Rattle.carte_bench.specs.Waits.{onward}
use Rattle.carte_progress.specs.Progress.{HasDone}
use Rattle.carte_progress.specs.Reasons.{FirstReason}
use Rattle.carte_progress.specs.Standing.{IsDemanded}
use Rattle.carte_progress.proofs.Done.{done_none, none_of, target_known}
use Rattle.carte_restart.specs.Going.{IsRestarting}
use Rattle.carte_restart.specs.Straight.{IsPrepared, IsStraight}
use Rattle.carte_restart.proofs.Built.{both_demanded, built_all, built_refused}
use Rattle.carte_restart.proofs.Goings.{going_none}
use Rattle.carte_restart.proofs.Keyed.{done_each}
use Rattle.carte_restart.proofs.Scheduled.{both, by_turns}
use Rattle.carte_restart.proofs.Straight.{straight_none}
use Rattle.carte_restart.proofs.building.build_from.Goals as goal

pub returns-in-None-clause-ends : goal.returns-in-None-clause-ends
returns-in-None-clause-ends g c =
    let b = book_view c.args.book.now in
    let K = kept_view c.args.kept.now in
    let h = g.R.Rebuilder.how c.args.rebuilder.now in
    let started = g.R.Job.Job.started in
    let fits = g.R.Job.Job.fits in
    let begun = g.R.Rebuilder.begun c.args.rebuilder.now K b in
    let list = c.args.list.now in
    let ts = c.args.targets.now in
    let s = spots_of c.treat_all-2.new.bench in
    let one = c.in_ok-treat_all.ensures {u = tt} in
    let two = c.in_ok-treat_all-2.ensures {u = tt} in
    let listed = λ (t : List ℕ) (here : Among list t) (held : IsRule b t). one.demanded t (subst (λ (l : List (List ℕ)). Among l t) (sym c.as_slice.ensures) here) held in
    let demanded = both_demanded b (spots_of c.treat_all.new.bench) s list ts listed two.known (λ t here held. two.demanded t (subst (λ (l : List (List ℕ)). Among l t) (sym c.as_slice-2.ensures) here) held) in
    let within_list = λ (t : List ℕ) (here : Among c.as_slice.result.now t). among_left list ts t (subst (λ (l : List (List ℕ)). Among l t) c.as_slice.ensures here) in
    let within_targets = λ (t : List ℕ) (here : Among c.as_slice-2.result.now t). among_right list ts t (subst (λ (l : List (List ℕ)). Among l t) c.as_slice-2.ensures here) in
    let none : IsRestarting started fits begun h K b (list ++ ts) (spots_of c.new-bench.result) c.in_ok-work.work.finished c.in_ok-work.work.runs = rw ((c.in_ok-work.ensures {u = tt}).finished, (c.in_ok-work.ensures {u = tt}).runs) (going_none started fits begun h K b (list ++ ts) (spots_of c.new-bench.result) c.new-bench.ensures.empty) in
    let mid = λ (H : List Book) (base : IsBase K b H). one.goes (list ++ ts) within_list H base none in
    let going = λ (H : List Book) (base : IsBase K b H). two.goes (list ++ ts) within_targets H base (mid H base) in
    let asked = rw c.in-None.is at (c.in_ok-first_reason.ensures {u = tt}) in
    let first = subst (λ (bk : Book). FirstReason (onward bk s) ts (None)) two.book (subst (λ (l : List (List ℕ)). FirstReason (onward (book_of c.treat_all-2.new.bench) s) l (None)) c.as_slice-3.ensures asked) in
    let ended = c.in_ok-with_chain-in-None.ensures {u = tt} in
    let idle : IsStraight (spots_of c.new-bench.result) c.in_ok-work.work.runs = rw ((c.in_ok-work.ensures {u = tt}).runs) (straight_none (spots_of c.new-bench.result) c.new-bench.ensures.empty) in
    let straight = λ (H : List Book) (base : IsBase K b H) (prepared : IsPrepared b [] list) (behind : IsPrepared b list ts).
    let half = one.straight (list ++ ts) within_list H base none idle ([], (λ j nowhere held. absurd nowhere), subst (λ (l : List (List ℕ)). IsPrepared b [] l) (sym c.as_slice.ensures) prepared) in
    (two.straight (list ++ ts) within_targets H base (mid H base) half (list, listed, subst (λ (l : List (List ℕ)). IsPrepared b list l) (sym c.as_slice-2.ensures) behind)).ended in
    built_all g.R.Job.Job.name started fits begun h K b list ts s two.standing c.treat_all-2.new.work c.in_ok-with_chain-in-None.field-0 ended.chain ended.finished ended.runs demanded c.treat_all-2.new.bench.slots.entries (λ q. refl) going first straight

pub returns-clause-ends : goal.returns-clause-ends
returns-clause-ends g c =
    let b = book_view c.args.book.now in
    let K = kept_view c.args.kept.now in
    let h = g.R.Rebuilder.how c.args.rebuilder.now in
    let started = g.R.Job.Job.started in
    let fits = g.R.Job.Job.fits in
    let begun = g.R.Rebuilder.begun c.args.rebuilder.now K b in
    let list = c.args.list.now in
    let ts = c.args.targets.now in
    let s = spots_of c.treat_all-2.new.bench in
    let one = c.in_ok-treat_all.ensures {u = tt} in
    let two = c.in_ok-treat_all-2.ensures {u = tt} in
    let listed = λ (t : List ℕ) (here : Among list t) (held : IsRule b t). one.demanded t (subst (λ (l : List (List ℕ)). Among l t) (sym c.as_slice.ensures) here) held in
    let demanded = both_demanded b (spots_of c.treat_all.new.bench) s list ts listed two.known (λ t here held. two.demanded t (subst (λ (l : List (List ℕ)). Among l t) (sym c.as_slice-2.ensures) here) held) in
    let within_list = λ (t : List ℕ) (here : Among c.as_slice.result.now t). among_left list ts t (subst (λ (l : List (List ℕ)). Among l t) c.as_slice.ensures here) in
    let within_targets = λ (t : List ℕ) (here : Among c.as_slice-2.result.now t). among_right list ts t (subst (λ (l : List (List ℕ)). Among l t) c.as_slice-2.ensures here) in
    let none : IsRestarting started fits begun h K b (list ++ ts) (spots_of c.new-bench.result) c.in_ok-work.work.finished c.in_ok-work.work.runs = rw ((c.in_ok-work.ensures {u = tt}).finished, (c.in_ok-work.ensures {u = tt}).runs) (going_none started fits begun h K b (list ++ ts) (spots_of c.new-bench.result) c.new-bench.ensures.empty) in
    let mid = λ (H : List Book) (base : IsBase K b H). one.goes (list ++ ts) within_list H base none in
    let going = λ (H : List Book) (base : IsBase K b H). two.goes (list ++ ts) within_targets H base (mid H base) in
    let asked = rw c.in-Some.is at (c.in_ok-first_reason.ensures {u = tt}) in
    let first = subst (λ (bk : Book). FirstReason (onward bk s) ts (Some c.in-Some.reason)) two.book (subst (λ (l : List (List ℕ)). FirstReason (onward (book_of c.treat_all-2.new.bench) s) l (Some c.in-Some.reason)) c.as_slice-3.ensures asked) in
    let ended = c.in_ok-with_chain-in-Some.ensures {u = tt} in
    built_refused g.R.Job.Job.name started fits begun h K b list ts s two.standing c.treat_all-2.new.work c.in_ok-with_chain-in-Some.field-0 ended.chain ended.finished ended.runs demanded c.treat_all-2.new.bench.slots.entries (λ q. refl) going c.in-Some.reason first

pub returns-in-None-clause-turns : goal.returns-in-None-clause-turns
returns-in-None-clause-turns g c =
    let b = book_view c.args.book.now in
    let begun = g.R.Rebuilder.begun c.args.rebuilder.now (kept_view c.args.kept.now) b in
    let room = c.in_ok-work.ensures {u = tt} in
    let ended = c.in_ok-with_chain-in-None.ensures {u = tt} in
    let treats = both g.R.Job.Job.name g.R.Job.Job.started g.R.Job.Job.gives (λ k j. begun (λ q. None) k j) (g.R.Rebuilder.how c.args.rebuilder.now) b c.as_slice.result.now c.as_slice-2.result.now c.args.list.now c.args.targets.now (spots_of c.new-bench.result) (spots_of c.treat_all.new.bench) (spots_of c.treat_all-2.new.bench) c.in_ok-work.work c.treat_all.new.work c.treat_all-2.new.work c.as_slice.ensures c.as_slice-2.ensures (c.in_ok-treat_all.ensures {u = tt}).treats (c.in_ok-treat_all-2.ensures {u = tt}).treats in
    by_turns g.R.Job.Job.name g.R.Job.Job.started g.R.Job.Job.gives (λ k j. begun (λ q. None) k j) (g.R.Rebuilder.how c.args.rebuilder.now) b (c.args.list.now ++ c.args.targets.now) (spots_of c.new-bench.result) (spots_of c.treat_all-2.new.bench) c.in_ok-work.work c.treat_all-2.new.work c.in_ok-with_chain-in-None.field-0 c.new-bench.ensures.empty room.finished room.runs ended.finished ended.runs treats

pub returns-clause-turns : goal.returns-clause-turns
returns-clause-turns g c =
    let b = book_view c.args.book.now in
    let begun = g.R.Rebuilder.begun c.args.rebuilder.now (kept_view c.args.kept.now) b in
    let room = c.in_ok-work.ensures {u = tt} in
    let ended = c.in_ok-with_chain-in-Some.ensures {u = tt} in
    let treats = both g.R.Job.Job.name g.R.Job.Job.started g.R.Job.Job.gives (λ k j. begun (λ q. None) k j) (g.R.Rebuilder.how c.args.rebuilder.now) b c.as_slice.result.now c.as_slice-2.result.now c.args.list.now c.args.targets.now (spots_of c.new-bench.result) (spots_of c.treat_all.new.bench) (spots_of c.treat_all-2.new.bench) c.in_ok-work.work c.treat_all.new.work c.treat_all-2.new.work c.as_slice.ensures c.as_slice-2.ensures (c.in_ok-treat_all.ensures {u = tt}).treats (c.in_ok-treat_all-2.ensures {u = tt}).treats in
    by_turns g.R.Job.Job.name g.R.Job.Job.started g.R.Job.Job.gives (λ k j. begun (λ q. None) k j) (g.R.Rebuilder.how c.args.rebuilder.now) b (c.args.list.now ++ c.args.targets.now) (spots_of c.new-bench.result) (spots_of c.treat_all-2.new.bench) c.in_ok-work.work c.treat_all-2.new.work c.in_ok-with_chain-in-Some.field-0 c.new-bench.ensures.empty room.finished room.runs ended.finished ended.runs treats

pub returns-in-None-clause-targets : goal.returns-in-None-clause-targets
returns-in-None-clause-targets g c =
    let b = book_view c.args.book.now in
    let K = kept_view c.args.kept.now in
    let r = c.args.rebuilder.now in
    let keyed = g.R.Job.Job.keyed in
    let begun = g.R.Rebuilder.begun r K b in
    let ts = c.args.targets.now in
    let bench = spots_of c.new-bench.result in
    let mid = spots_of c.treat_all.new.bench in
    let s = spots_of c.treat_all-2.new.bench in
    let w = c.treat_all-2.new.work in
    let one = c.in_ok-treat_all.ensures {u = tt} in
    let two = c.in_ok-treat_all-2.ensures {u = tt} in
    let asked = rw c.in-None.is at (c.in_ok-first_reason.ensures {u = tt}) in
    let none = subst (λ (bk : Book). FirstReason (onward bk s) ts (None)) two.book (subst (λ (l : List (List ℕ)). FirstReason (onward (book_of c.treat_all-2.new.bench) s) l (None)) c.as_slice-3.ensures asked) in
    let each = done_each keyed g.R.Job.Job.name g.R.Job.Job.started g.R.Job.Job.gives (λ k j. begun (λ q. None) k j) (g.R.Rebuilder.how r) b (λ k j begun_so. g.met.R.Rebuilder.keyed r K b (λ q. None) k j begun_so) (λ old new l m k made turned all. c.turn_keeps.ensures.keys b old new l m k made turned all) in
    let before = subst (HasDone keyed bench) (sym (c.in_ok-work.ensures {u = tt}).finished) (done_none keyed bench c.new-bench.ensures.empty) in
    let half = each c.as_slice.result.now (record { spots = bench; path = []; finished = c.in_ok-work.work.finished; runs = c.in_ok-work.work.runs }) (record { spots = mid; path = []; finished = c.treat_all.new.work.finished; runs = c.treat_all.new.work.runs }) one.treats before in
    let has = each c.as_slice-2.result.now (record { spots = mid; path = []; finished = c.treat_all.new.work.finished; runs = c.treat_all.new.work.runs }) (record { spots = s; path = []; finished = w.finished; runs = w.runs }) two.treats half in
    let demanded = subst (λ (l : List (List ℕ)). (t : List ℕ) → Among l t → IsRule b t → IsDemanded s t) c.as_slice-2.ensures two.demanded in
    λ t here. rw (c.in_ok-with_chain-in-None.ensures {u = tt}).finished (target_known keyed g.R.Job.Job.name b s w.finished two.standing c.treat_all-2.new.bench.slots.entries (λ q. refl) has t (demanded t here) (none_of (onward b s) ts t none here))
