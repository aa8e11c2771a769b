use Rattle.std.proofs.Common.{ℕ, List, ◌∷◌, None, Ok, Err, refl, sym, subst}
use Rattle.std.specs.Prelude.{OnOk}
use Rattle.carte_effect.specs.Ledger.{Ledger}
use Rattle.carte_bench.specs.declared.slot.Slot.TheVariants.{Stopped, Done}
use Rattle.carte_book.specs.Book.{Book, book_view}
use Rattle.carte_record.specs.Kept.{kept_view}
use Rattle.carte_bench.specs.Held.{spots_of}
use Rattle.carte_bench.specs.Spots.{name_of}
use Rattle.carte_note.specs.Right.{ran_in}
use Rattle.carte_progress.specs.Opening.{Opens}
use Rattle.carte_progress.proofs.Standings.{known_put}
use Rattle.carte_progress.proofs.Opened.{stands_opens, known_opens}
use Rattle.carte_progress.proofs.Puts.{ready_there}
use Rattle.carte_progress.proofs.Turned.{stands_ended, turn_put, stop_in}
use Rattle.carte_progress.proofs.Measures.{ended_fewer, opened_fewer}
use Rattle.carte_progress.proofs.Answered.{on_ok, on_ok_by}
use Rattle.carte_progress.proofs.Driving.{stop_treated}
use Rattle.carte_progress.proofs.Alongs.{Laws}
use Rattle.carte_restart.specs.Anew.{TurnedAnew}
use Rattle.carte_restart.specs.Going.{IsRestarting}
use Rattle.carte_restart.specs.Straight.{IsStraight}
use Rattle.carte_restart.proofs.Goings.{going_opens, going_ended, going_anew, need_mid}
use Rattle.carte_restart.proofs.Renewing.{anew_put, anew_halts, anew_stands}
use Rattle.carte_restart.proofs.Straight.{ends_next, never_stops}
use Rattle.carte_restart.proofs.turns.turn.Goals as goal

pub drive-requires-clause-rule : goal.drive-requires-clause-rule
drive-requires-clause-rule g c κs within =
    let there = ready_there (spots_of c.args.bench.now) (spots_of c.args.bench.now c.args.name) c.requires.standing.chain.0 in
    c.requires.standing.stands.rules c.args.name there.0 there.1

pub open_stop-requires-clause-stop : goal.open_stop-requires-clause-stop
open_stop-requires-clause-stop g c κs within =
    let b = book_view c.args.book.now in
    let name = g.R.Job.Job.name in
    let started = g.R.Job.Job.started in
    let gives = g.R.Job.Job.gives in
    let begun = g.R.Rebuilder.begun c.args.rebuilder.now (kept_view c.args.kept.now) b in
    let old = spots_of c.args.bench.now in
    let mid = spots_of c.drive.new.bench in
    let r = c.args.work.now.runs in
    let s = c.drive.new.runs in
    let k = c.args.name in
    let ks = c.args.path.now.items in
    let stuck = c.in-Err.stuck in
    let anew = subst (λ (bk : Book). TurnedAnew name started gives (λ i j. begun (λ q. None) i j) bk old mid r s k (Err stuck)) c.requires.book (rw c.in-Err.is at (c.in_ok-came.ensures {u = tt}).turned) in
    stop_in name started gives b old anew.mid r s k stuck anew.turned

pub returns-in-Ok-clause-standing : goal.returns-in-Ok-clause-standing
returns-in-Ok-clause-standing g c =
    let b = book_view c.args.book.now in
    let name = g.R.Job.Job.name in
    let started = g.R.Job.Job.started in
    let gives = g.R.Job.Job.gives in
    let begun = g.R.Rebuilder.begun c.args.rebuilder.now (kept_view c.args.kept.now) b in
    let old = spots_of c.args.bench.now in
    let mid = spots_of c.drive.new.bench in
    let r = c.args.work.now.runs in
    let s = c.drive.new.runs in
    let k = c.args.name in
    let ks = c.args.path.now.items in
    let m = c.in-Ok.made in
    let turned = subst (λ (bk : Book). TurnedAnew name started gives (λ i j. begun (λ q. None) i j) bk old mid r s k (Ok m)) c.requires.book (rw c.in-Ok.is at (c.in_ok-came.ensures {u = tt}).turned) in
    let put = turn_put name started gives b old mid r s k (Ok m) turned in
    on_ok c.finish_made.result (stands_ended name b old mid k ks c.requires.standing m put)

pub returns-in-Ok-clause-fewer : goal.returns-in-Ok-clause-fewer
returns-in-Ok-clause-fewer g c =
    let b = book_view c.args.book.now in
    let name = g.R.Job.Job.name in
    let started = g.R.Job.Job.started in
    let gives = g.R.Job.Job.gives in
    let begun = g.R.Rebuilder.begun c.args.rebuilder.now (kept_view c.args.kept.now) b in
    let old = spots_of c.args.bench.now in
    let mid = spots_of c.drive.new.bench in
    let r = c.args.work.now.runs in
    let s = c.drive.new.runs in
    let k = c.args.name in
    let ks = c.args.path.now.items in
    let m = c.in-Ok.made in
    let turned = subst (λ (bk : Book). TurnedAnew name started gives (λ i j. begun (λ q. None) i j) bk old mid r s k (Ok m)) c.requires.book (rw c.in-Ok.is at (c.in_ok-came.ensures {u = tt}).turned) in
    let put = turn_put name started gives b old mid r s k (Ok m) turned in
    on_ok c.finish_made.result (ended_fewer b old mid k ks (known_put old mid k (Done m) put))

pub returns-in-Ok-clause-known : goal.returns-in-Ok-clause-known
returns-in-Ok-clause-known g c =
    let b = book_view c.args.book.now in
    let name = g.R.Job.Job.name in
    let started = g.R.Job.Job.started in
    let gives = g.R.Job.Job.gives in
    let begun = g.R.Rebuilder.begun c.args.rebuilder.now (kept_view c.args.kept.now) b in
    let old = spots_of c.args.bench.now in
    let mid = spots_of c.drive.new.bench in
    let r = c.args.work.now.runs in
    let s = c.drive.new.runs in
    let k = c.args.name in
    let ks = c.args.path.now.items in
    let m = c.in-Ok.made in
    let turned = subst (λ (bk : Book). TurnedAnew name started gives (λ i j. begun (λ q. None) i j) bk old mid r s k (Ok m)) c.requires.book (rw c.in-Ok.is at (c.in_ok-came.ensures {u = tt}).turned) in
    let put = turn_put name started gives b old mid r s k (Ok m) turned in
    on_ok c.finish_made.result (known_put old mid k (Done m) put)

pub returns-in-Ok-clause-goes : goal.returns-in-Ok-clause-goes
returns-in-Ok-clause-goes g c =
    let b = book_view c.args.book.now in
    let name = g.R.Job.Job.name in
    let started = g.R.Job.Job.started in
    let gives = g.R.Job.Job.gives in
    let begun = g.R.Rebuilder.begun c.args.rebuilder.now (kept_view c.args.kept.now) b in
    let old = spots_of c.args.bench.now in
    let mid = spots_of c.drive.new.bench in
    let r = c.args.work.now.runs in
    let s = c.drive.new.runs in
    let k = c.args.name in
    let ks = c.args.path.now.items in
    let m = c.in-Ok.made in
    let turned = subst (λ (bk : Book). TurnedAnew name started gives (λ i j. begun (λ q. None) i j) bk old mid r s k (Ok m)) c.requires.book (rw c.in-Ok.is at (c.in_ok-came.ensures {u = tt}).turned) in
    let K = kept_view c.args.kept.now in
    let h = g.R.Rebuilder.how c.args.rebuilder.now in
    let fits = g.R.Job.Job.fits in
    let ready = c.requires.standing.chain.0 in
    on_ok_by c.finish_made.result
    (λ ends ts H base going.
    let laws : Laws name started fits gives begun h K b = (record { keeps = λ s d l m i o turned core. c.turn_keeps.ensures.core b s d l m i o turned core; goes_on = λ t i p part further step q begun_so more is_part gave. g.met.R.Rebuilder.goes_on c.args.rebuilder.now K b H t i p part further step q base begun_so more is_part gave }) in
    subst (λ (l : Ledger). IsRestarting started fits begun h K b ts mid c.finish_made.new.work.finished l) (sym c.finish_made.ensures.runs)
    (going_ended name started fits gives begun h K b ts laws old mid k c.args.work.now.finished r s going ready m c.finish_made.new.work.finished turned ends))
    c.finish_made.ensures.ends

pub returns-in-Ok-clause-straight : goal.returns-in-Ok-clause-straight
returns-in-Ok-clause-straight g c =
    let b = book_view c.args.book.now in
    let name = g.R.Job.Job.name in
    let started = g.R.Job.Job.started in
    let gives = g.R.Job.Job.gives in
    let begun = g.R.Rebuilder.begun c.args.rebuilder.now (kept_view c.args.kept.now) b in
    let old = spots_of c.args.bench.now in
    let mid = spots_of c.drive.new.bench in
    let r = c.args.work.now.runs in
    let s = c.drive.new.runs in
    let k = c.args.name in
    let ks = c.args.path.now.items in
    let m = c.in-Ok.made in
    let turned = subst (λ (bk : Book). TurnedAnew name started gives (λ i j. begun (λ q. None) i j) bk old mid r s k (Ok m)) c.requires.book (rw c.in-Ok.is at (c.in_ok-came.ensures {u = tt}).turned) in
    on_ok c.finish_made.result (λ ts H target base going next.
    let end = ends_next name started gives b old mid r s k ks target next (ran_in c.args.work.now.finished) going.tallied c.requires.standing.chain.0 m turned in
    (end.0, subst (λ (l : Ledger). IsStraight mid l) (sym c.finish_made.ensures.runs) end.1))

pub returns-in_ok-push-in-Err-clause-standing : goal.returns-in_ok-push-in-Err-clause-standing
returns-in_ok-push-in-Err-clause-standing g c =
    let b = book_view c.args.book.now in
    let name = g.R.Job.Job.name in
    let started = g.R.Job.Job.started in
    let gives = g.R.Job.Job.gives in
    let begun = g.R.Rebuilder.begun c.args.rebuilder.now (kept_view c.args.kept.now) b in
    let old = spots_of c.args.bench.now in
    let mid = spots_of c.drive.new.bench in
    let r = c.args.work.now.runs in
    let s = c.drive.new.runs in
    let k = c.args.name in
    let ks = c.args.path.now.items in
    let stuck = c.in-Err.stuck in
    let anew = subst (λ (bk : Book). TurnedAnew name started gives (λ i j. begun (λ q. None) i j) bk old mid r s k (Err stuck)) c.requires.book (rw c.in-Err.is at (c.in_ok-came.ensures {u = tt}).turned) in
    let new = spots_of c.open_stop.new.bench in
    let path = c.open_stop.new.path.items in
    let at = name_of stuck in
    let opens = subst (λ (p : List (List ℕ)). OnOk c.open_stop.result (Opens name started (λ i j. begun (λ q. None) i j) b mid new p path at)) ((c.in_ok-push-in-Err.ensures {u = tt}).put) c.open_stop.ensures.opens in
    let halted = anew_halts name started gives (λ i j. begun (λ q. None) i j) b old mid r s k stuck anew ks c.requires.standing in
    on_ok_by c.open_stop.result (λ o. stands_opens name b started (λ i j. begun (λ q. None) i j) mid new (k ∷ ks) at halted path o) opens

pub returns-in_ok-push-in-Err-clause-fewer : goal.returns-in_ok-push-in-Err-clause-fewer
returns-in_ok-push-in-Err-clause-fewer g c =
    let b = book_view c.args.book.now in
    let name = g.R.Job.Job.name in
    let started = g.R.Job.Job.started in
    let gives = g.R.Job.Job.gives in
    let begun = g.R.Rebuilder.begun c.args.rebuilder.now (kept_view c.args.kept.now) b in
    let old = spots_of c.args.bench.now in
    let mid = spots_of c.drive.new.bench in
    let r = c.args.work.now.runs in
    let s = c.drive.new.runs in
    let k = c.args.name in
    let ks = c.args.path.now.items in
    let stuck = c.in-Err.stuck in
    let anew = subst (λ (bk : Book). TurnedAnew name started gives (λ i j. begun (λ q. None) i j) bk old mid r s k (Err stuck)) c.requires.book (rw c.in-Err.is at (c.in_ok-came.ensures {u = tt}).turned) in
    let new = spots_of c.open_stop.new.bench in
    let path = c.open_stop.new.path.items in
    let at = name_of stuck in
    let opens = subst (λ (p : List (List ℕ)). OnOk c.open_stop.result (Opens name started (λ i j. begun (λ q. None) i j) b mid new p path at)) ((c.in_ok-push-in-Err.ensures {u = tt}).put) c.open_stop.ensures.opens in
    let known = known_put old mid k (Stopped anew.job at) (anew_put name started gives (λ i j. begun (λ q. None) i j) b old mid r s k stuck anew) in
    on_ok_by c.open_stop.result (λ o. opened_fewer name started (λ i j. begun (λ q. None) i j) b old mid new k ks path at known o) opens

pub returns-in_ok-push-in-Err-clause-known : goal.returns-in_ok-push-in-Err-clause-known
returns-in_ok-push-in-Err-clause-known g c =
    let b = book_view c.args.book.now in
    let name = g.R.Job.Job.name in
    let started = g.R.Job.Job.started in
    let gives = g.R.Job.Job.gives in
    let begun = g.R.Rebuilder.begun c.args.rebuilder.now (kept_view c.args.kept.now) b in
    let old = spots_of c.args.bench.now in
    let mid = spots_of c.drive.new.bench in
    let r = c.args.work.now.runs in
    let s = c.drive.new.runs in
    let k = c.args.name in
    let ks = c.args.path.now.items in
    let stuck = c.in-Err.stuck in
    let anew = subst (λ (bk : Book). TurnedAnew name started gives (λ i j. begun (λ q. None) i j) bk old mid r s k (Err stuck)) c.requires.book (rw c.in-Err.is at (c.in_ok-came.ensures {u = tt}).turned) in
    let new = spots_of c.open_stop.new.bench in
    let path = c.open_stop.new.path.items in
    let at = name_of stuck in
    let opens = subst (λ (p : List (List ℕ)). OnOk c.open_stop.result (Opens name started (λ i j. begun (λ q. None) i j) b mid new p path at)) ((c.in_ok-push-in-Err.ensures {u = tt}).put) c.open_stop.ensures.opens in
    let known = known_put old mid k (Stopped anew.job at) (anew_put name started gives (λ i j. begun (λ q. None) i j) b old mid r s k stuck anew) in
    on_ok_by c.open_stop.result (λ o q x is. (let one = known q x is in (known_opens name started (λ i j. begun (λ n. None) i j) b mid new (k ∷ ks) path at o).0 q one.0 one.1)) opens

pub returns-in_ok-push-in-Err-clause-goes : goal.returns-in_ok-push-in-Err-clause-goes
returns-in_ok-push-in-Err-clause-goes g c =
    let b = book_view c.args.book.now in
    let name = g.R.Job.Job.name in
    let started = g.R.Job.Job.started in
    let gives = g.R.Job.Job.gives in
    let begun = g.R.Rebuilder.begun c.args.rebuilder.now (kept_view c.args.kept.now) b in
    let old = spots_of c.args.bench.now in
    let mid = spots_of c.drive.new.bench in
    let r = c.args.work.now.runs in
    let s = c.drive.new.runs in
    let k = c.args.name in
    let ks = c.args.path.now.items in
    let stuck = c.in-Err.stuck in
    let anew = subst (λ (bk : Book). TurnedAnew name started gives (λ i j. begun (λ q. None) i j) bk old mid r s k (Err stuck)) c.requires.book (rw c.in-Err.is at (c.in_ok-came.ensures {u = tt}).turned) in
    let new = spots_of c.open_stop.new.bench in
    let path = c.open_stop.new.path.items in
    let at = name_of stuck in
    let opens = subst (λ (p : List (List ℕ)). OnOk c.open_stop.result (Opens name started (λ i j. begun (λ q. None) i j) b mid new p path at)) ((c.in_ok-push-in-Err.ensures {u = tt}).put) c.open_stop.ensures.opens in
    let K = kept_view c.args.kept.now in
    let h = g.R.Rebuilder.how c.args.rebuilder.now in
    let fits = g.R.Job.Job.fits in
    let ready = c.requires.standing.chain.0 in
    on_ok_by c.open_stop.result
    (λ o ts H base going.
    let laws : Laws name started fits gives begun h K b = (record { keeps = λ s d l m i o turned core. c.turn_keeps.ensures.core b s d l m i o turned core; goes_on = λ t i p part further step q begun_so more is_part gave. g.met.R.Rebuilder.goes_on c.args.rebuilder.now K b H t i p part further step q base begun_so more is_part gave }) in
    let now = going_anew name started fits gives begun h K b ts laws old mid k c.args.work.now.finished r s going ready (λ t i j begun_so. g.met.R.Rebuilder.fits c.args.rebuilder.now K b H t i j base begun_so) stuck anew in
    let stands = anew_stands name started gives (λ i j. begun (λ q. None) i j) b old mid r s k stuck anew in
    going_opens name started fits begun h K b ts (λ t i j begun_so. g.met.R.Rebuilder.fits c.args.rebuilder.now K b H t i j base begun_so) mid new at c.args.work.now.finished s now (k ∷ ks) path (stop_treated fits begun h K b ts mid k at anew.job now.along.known stands) o)
    opens

pub returns-in_ok-push-in-Err-clause-straight : goal.returns-in_ok-push-in-Err-clause-straight
returns-in_ok-push-in-Err-clause-straight g c =
    let b = book_view c.args.book.now in
    let name = g.R.Job.Job.name in
    let started = g.R.Job.Job.started in
    let gives = g.R.Job.Job.gives in
    let begun = g.R.Rebuilder.begun c.args.rebuilder.now (kept_view c.args.kept.now) b in
    let old = spots_of c.args.bench.now in
    let mid = spots_of c.drive.new.bench in
    let r = c.args.work.now.runs in
    let s = c.drive.new.runs in
    let k = c.args.name in
    let ks = c.args.path.now.items in
    let stuck = c.in-Err.stuck in
    let anew = subst (λ (bk : Book). TurnedAnew name started gives (λ i j. begun (λ q. None) i j) bk old mid r s k (Err stuck)) c.requires.book (rw c.in-Err.is at (c.in_ok-came.ensures {u = tt}).turned) in
    let K = kept_view c.args.kept.now in
    let h = g.R.Rebuilder.how c.args.rebuilder.now in
    let fits = g.R.Job.Job.fits in
    let ready = c.requires.standing.chain.0 in
    on_ok c.open_stop.result (λ ts H target base going next.
    let laws : Laws name started fits gives begun h K b = (record { keeps = λ s d l m i o turned core. c.turn_keeps.ensures.core b s d l m i o turned core; goes_on = λ t i p part further step q begun_so more is_part gave. g.met.R.Rebuilder.goes_on c.args.rebuilder.now K b H t i p part further step q base begun_so more is_part gave }) in
    absurd (never_stops name started gives b old anew.mid r s k ks target next stuck anew.turned (need_mid name started fits gives begun h K b ts laws old mid k c.args.work.now.finished r s going ready (λ t i j begun_so. g.met.R.Rebuilder.fits c.args.rebuilder.now K b H t i j base begun_so) stuck anew)))

pub returns-in-Ok-clause-turns : goal.returns-in-Ok-clause-turns
returns-in-Ok-clause-turns g c =
    let b = book_view c.args.book.now in
    let name = g.R.Job.Job.name in
    let started = g.R.Job.Job.started in
    let gives = g.R.Job.Job.gives in
    let begun = g.R.Rebuilder.begun c.args.rebuilder.now (kept_view c.args.kept.now) b in
    let old = spots_of c.args.bench.now in
    let mid = spots_of c.drive.new.bench in
    let r = c.args.work.now.runs in
    let s = c.drive.new.runs in
    let k = c.args.name in
    let m = c.in-Ok.made in
    let turned = subst (λ (bk : Book). TurnedAnew name started gives (λ i j. begun (λ q. None) i j) bk old mid r s k (Ok m)) c.requires.book (rw c.in-Ok.is at (c.in_ok-came.ensures {u = tt}).turned) in
    on_ok_by c.finish_made.result
    (λ ends. record {
      outcome = Ok m;
      mid = mid;
      turned = subst (λ (l : Ledger). TurnedAnew name started gives (λ i j. begun (λ q. None) i j) b old mid r l k (Ok m)) (sym c.finish_made.ensures.runs) turned;
      follows = (refl, refl, ends);
    })
    c.finish_made.ensures.ends

pub returns-in_ok-push-in-Err-clause-turns : goal.returns-in_ok-push-in-Err-clause-turns
returns-in_ok-push-in-Err-clause-turns g c =
    let b = book_view c.args.book.now in
    let name = g.R.Job.Job.name in
    let started = g.R.Job.Job.started in
    let gives = g.R.Job.Job.gives in
    let begun = g.R.Rebuilder.begun c.args.rebuilder.now (kept_view c.args.kept.now) b in
    let old = spots_of c.args.bench.now in
    let mid = spots_of c.drive.new.bench in
    let r = c.args.work.now.runs in
    let s = c.drive.new.runs in
    let k = c.args.name in
    let stuck = c.in-Err.stuck in
    let anew = subst (λ (bk : Book). TurnedAnew name started gives (λ i j. begun (λ q. None) i j) bk old mid r s k (Err stuck)) c.requires.book (rw c.in-Err.is at (c.in_ok-came.ensures {u = tt}).turned) in
    let new = spots_of c.open_stop.new.bench in
    let path = c.open_stop.new.path.items in
    let opens = subst (λ (p : List (List ℕ)). OnOk c.open_stop.result (Opens name started (λ i j. begun (λ q. None) i j) b mid new p path (name_of stuck))) ((c.in_ok-push-in-Err.ensures {u = tt}).put) c.open_stop.ensures.opens in
    on_ok_by c.open_stop.result
    (λ o. record {
      outcome = Err stuck;
      mid = mid;
      turned = anew;
      follows = (refl, o);
    })
    opens
