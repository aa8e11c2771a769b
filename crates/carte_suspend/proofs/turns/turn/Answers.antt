use Rattle.std.proofs.Common.{ℕ, List, ◌∷◌, Some, None, Ok, Err, sym, subst}
use Rattle.std.specs.Prelude.{OnOk}
use Rattle.carte_effect.specs.Ledger.{Ledger}
use Rattle.carte_bench.specs.declared.slot.Slot.TheVariants.{Stopped, Done}
use Rattle.carte_book.specs.Book.{Book, book_view}
use Rattle.carte_record.specs.Kept.{kept_view}
use Rattle.carte_bench.specs.Held.{spots_of}
use Rattle.carte_bench.specs.Spots.{name_of}
use Rattle.carte_bench.specs.Turns.{TurnedTo}
use Rattle.carte_progress.specs.Opening.{Opens}
use Rattle.carte_progress.specs.Counted.{IsGoing}
use Rattle.carte_progress.proofs.Standings.{known_put}
use Rattle.carte_progress.proofs.Opened.{stands_opens, known_opens}
use Rattle.carte_progress.proofs.Turned.{stands_ended, turn_put, stop_in, stop_waits, turn_halts}
use Rattle.carte_progress.proofs.Measures.{ended_fewer, opened_fewer}
use Rattle.carte_progress.proofs.Answered.{on_ok, on_ok_by}
use Rattle.carte_progress.proofs.Done.{done_opens, done_stopped, done_ended}
use Rattle.carte_progress.proofs.Driving.{stop_treated}
use Rattle.carte_progress.proofs.Alongs.{Laws}
use Rattle.carte_progress.proofs.Goings.{going_opens, going_ended, going_stopped}
use Rattle.carte_suspend.proofs.turns.turn.Goals as goal

pub open_stop-requires-clause-stop : goal.open_stop-requires-clause-stop
open_stop-requires-clause-stop g c κs within =
    let b = book_view c.args.book.now in
    let name = g.R.Job.Job.name in
    let started = g.R.Job.Job.started in
    let gives = g.R.Job.Job.gives in
    let old = spots_of c.args.bench.now in
    let mid = spots_of c.turn_to.new.self in
    let r = c.args.work.now.runs in
    let s = c.turn_to.new.runs in
    let k = c.args.name in
    let stuck = c.in-Err.stuck in
    stop_in name started gives b old mid r s k stuck (subst (λ (bk : Book). TurnedTo name started gives bk old mid r s k (Err stuck)) c.requires.book (rw c.in-Err.is at (c.in_ok-came.ensures {u = tt}).turned))

pub returns-in-Ok-clause-standing : goal.returns-in-Ok-clause-standing
returns-in-Ok-clause-standing g c =
    let b = book_view c.args.book.now in
    let K = kept_view c.args.kept.now in
    let h = g.R.Rebuilder.how c.args.rebuilder.now in
    let name = g.R.Job.Job.name in
    let started = g.R.Job.Job.started in
    let gives = g.R.Job.Job.gives in
    let old = spots_of c.args.bench.now in
    let mid = spots_of c.turn_to.new.self in
    let r = c.args.work.now.runs in
    let s = c.turn_to.new.runs in
    let k = c.args.name in
    let ks = c.args.path.now.items in
    let m = c.in-Ok.made in
    let turned = subst (λ (bk : Book). TurnedTo name started gives bk old mid r s k (Ok m)) c.requires.book (rw c.in-Ok.is at (c.in_ok-came.ensures {u = tt}).turned) in
    let put = turn_put name started gives b old mid r s k (Ok m) turned in
    on_ok c.finish_made.result (stands_ended name b old mid k ks c.requires.standing m put)

pub returns-in-Ok-clause-fewer : goal.returns-in-Ok-clause-fewer
returns-in-Ok-clause-fewer g c =
    let b = book_view c.args.book.now in
    let K = kept_view c.args.kept.now in
    let h = g.R.Rebuilder.how c.args.rebuilder.now in
    let name = g.R.Job.Job.name in
    let started = g.R.Job.Job.started in
    let gives = g.R.Job.Job.gives in
    let old = spots_of c.args.bench.now in
    let mid = spots_of c.turn_to.new.self in
    let r = c.args.work.now.runs in
    let s = c.turn_to.new.runs in
    let k = c.args.name in
    let ks = c.args.path.now.items in
    let m = c.in-Ok.made in
    let turned = subst (λ (bk : Book). TurnedTo name started gives bk old mid r s k (Ok m)) c.requires.book (rw c.in-Ok.is at (c.in_ok-came.ensures {u = tt}).turned) in
    let put = turn_put name started gives b old mid r s k (Ok m) turned in
    on_ok c.finish_made.result (ended_fewer b old mid k ks (known_put old mid k (Done m) put))

pub returns-in-Ok-clause-known : goal.returns-in-Ok-clause-known
returns-in-Ok-clause-known g c =
    let b = book_view c.args.book.now in
    let K = kept_view c.args.kept.now in
    let h = g.R.Rebuilder.how c.args.rebuilder.now in
    let name = g.R.Job.Job.name in
    let started = g.R.Job.Job.started in
    let gives = g.R.Job.Job.gives in
    let old = spots_of c.args.bench.now in
    let mid = spots_of c.turn_to.new.self in
    let r = c.args.work.now.runs in
    let s = c.turn_to.new.runs in
    let k = c.args.name in
    let ks = c.args.path.now.items in
    let m = c.in-Ok.made in
    let turned = subst (λ (bk : Book). TurnedTo name started gives bk old mid r s k (Ok m)) c.requires.book (rw c.in-Ok.is at (c.in_ok-came.ensures {u = tt}).turned) in
    let put = turn_put name started gives b old mid r s k (Ok m) turned in
    on_ok c.finish_made.result (known_put old mid k (Done m) put)

pub returns-in-Ok-clause-goes : goal.returns-in-Ok-clause-goes
returns-in-Ok-clause-goes g c =
    let b = book_view c.args.book.now in
    let K = kept_view c.args.kept.now in
    let h = g.R.Rebuilder.how c.args.rebuilder.now in
    let name = g.R.Job.Job.name in
    let started = g.R.Job.Job.started in
    let gives = g.R.Job.Job.gives in
    let old = spots_of c.args.bench.now in
    let mid = spots_of c.turn_to.new.self in
    let r = c.args.work.now.runs in
    let s = c.turn_to.new.runs in
    let k = c.args.name in
    let ks = c.args.path.now.items in
    let m = c.in-Ok.made in
    let turned = subst (λ (bk : Book). TurnedTo name started gives bk old mid r s k (Ok m)) c.requires.book (rw c.in-Ok.is at (c.in_ok-came.ensures {u = tt}).turned) in
    let put = turn_put name started gives b old mid r s k (Ok m) turned in
    let fits = g.R.Job.Job.fits in
    let begun = g.R.Rebuilder.begun c.args.rebuilder.now K b in
    on_ok_by c.finish_made.result
    (λ ends ts H base going. subst (λ (l : Ledger). IsGoing started fits begun h K b ts mid c.finish_made.new.work.finished l) (sym c.finish_made.ensures.runs)
    (going_ended name started fits gives begun h K b ts (record { keeps = λ s d l m i o turned core. c.turn_keeps.ensures.core b s d l m i o turned core; goes_on = λ t i p part further step q begun_so more is_part gave. g.met.R.Rebuilder.goes_on c.args.rebuilder.now K b H t i p part further step q base begun_so more is_part gave }) old mid k c.args.work.now.finished r s going m c.finish_made.new.work.finished turned ends))
    c.finish_made.ensures.ends

pub returns-in-Ok-clause-done : goal.returns-in-Ok-clause-done
returns-in-Ok-clause-done g c =
    let b = book_view c.args.book.now in
    let h = g.R.Rebuilder.how c.args.rebuilder.now in
    let name = g.R.Job.Job.name in
    let started = g.R.Job.Job.started in
    let gives = g.R.Job.Job.gives in
    let keyed = g.R.Job.Job.keyed in
    let old = spots_of c.args.bench.now in
    let mid = spots_of c.turn_to.new.self in
    let r = c.args.work.now.runs in
    let s = c.turn_to.new.runs in
    let k = c.args.name in
    let m = c.in-Ok.made in
    let turned = subst (λ (bk : Book). TurnedTo name started gives bk old mid r s k (Ok m)) c.requires.book (rw c.in-Ok.is at (c.in_ok-came.ensures {u = tt}).turned) in
    let put = turn_put name started gives b old mid r s k (Ok m) turned in
    on_ok_by c.finish_made.result
    (λ ends has. done_ended keyed h b old mid k m c.args.work.now.finished c.finish_made.new.work.finished put (c.turn_keeps.ensures.keys b old mid r s k (Some m) turned has.keys) ends has)
    c.finish_made.ensures.ends

pub returns-in_ok-push-in-Err-clause-standing : goal.returns-in_ok-push-in-Err-clause-standing
returns-in_ok-push-in-Err-clause-standing g c =
    let b = book_view c.args.book.now in
    let K = kept_view c.args.kept.now in
    let h = g.R.Rebuilder.how c.args.rebuilder.now in
    let name = g.R.Job.Job.name in
    let started = g.R.Job.Job.started in
    let gives = g.R.Job.Job.gives in
    let old = spots_of c.args.bench.now in
    let mid = spots_of c.turn_to.new.self in
    let r = c.args.work.now.runs in
    let s = c.turn_to.new.runs in
    let k = c.args.name in
    let ks = c.args.path.now.items in
    let stuck = c.in-Err.stuck in
    let turned = subst (λ (bk : Book). TurnedTo name started gives bk old mid r s k (Err stuck)) c.requires.book (rw c.in-Err.is at (c.in_ok-came.ensures {u = tt}).turned) in
    let put = turn_put name started gives b old mid r s k (Err stuck) turned in
    let new = spots_of c.open_stop.new.bench in
    let path = c.open_stop.new.path.items in
    let at = name_of stuck in
    let begun = g.R.Rebuilder.begun c.args.rebuilder.now K b in
    let waits = (stop_waits name started gives b old mid r s k c.requires.standing.stands.rules stuck turned).0 in
    let pushed = (c.in_ok-push-in-Err.ensures {u = tt}).put in
    let opens = subst (λ (p : List (List ℕ)). OnOk c.open_stop.result (Opens name started (λ i j. begun (λ q. None) i j) b mid new p path at)) pushed c.open_stop.ensures.opens in
    let halted = turn_halts name started gives b old mid r s k c.requires.standing.stands.rules ks stuck at c.requires.standing turned waits in
    on_ok_by c.open_stop.result (λ o. stands_opens name b started (λ i j. begun (λ q. None) i j) mid new (k ∷ ks) at halted path o) opens

pub returns-in_ok-push-in-Err-clause-fewer : goal.returns-in_ok-push-in-Err-clause-fewer
returns-in_ok-push-in-Err-clause-fewer g c =
    let b = book_view c.args.book.now in
    let K = kept_view c.args.kept.now in
    let h = g.R.Rebuilder.how c.args.rebuilder.now in
    let name = g.R.Job.Job.name in
    let started = g.R.Job.Job.started in
    let gives = g.R.Job.Job.gives in
    let old = spots_of c.args.bench.now in
    let mid = spots_of c.turn_to.new.self in
    let r = c.args.work.now.runs in
    let s = c.turn_to.new.runs in
    let k = c.args.name in
    let ks = c.args.path.now.items in
    let stuck = c.in-Err.stuck in
    let turned = subst (λ (bk : Book). TurnedTo name started gives bk old mid r s k (Err stuck)) c.requires.book (rw c.in-Err.is at (c.in_ok-came.ensures {u = tt}).turned) in
    let put = turn_put name started gives b old mid r s k (Err stuck) turned in
    let new = spots_of c.open_stop.new.bench in
    let path = c.open_stop.new.path.items in
    let at = name_of stuck in
    let begun = g.R.Rebuilder.begun c.args.rebuilder.now K b in
    let waits = (stop_waits name started gives b old mid r s k c.requires.standing.stands.rules stuck turned).0 in
    let pushed = (c.in_ok-push-in-Err.ensures {u = tt}).put in
    let opens = subst (λ (p : List (List ℕ)). OnOk c.open_stop.result (Opens name started (λ i j. begun (λ q. None) i j) b mid new p path at)) pushed c.open_stop.ensures.opens in
    let known = known_put old mid k (Stopped turned.after (name_of stuck)) put in
    on_ok_by c.open_stop.result (λ o. opened_fewer name started (λ i j. begun (λ q. None) i j) b old mid new k ks path at known o) opens

pub returns-in_ok-push-in-Err-clause-known : goal.returns-in_ok-push-in-Err-clause-known
returns-in_ok-push-in-Err-clause-known g c =
    let b = book_view c.args.book.now in
    let K = kept_view c.args.kept.now in
    let h = g.R.Rebuilder.how c.args.rebuilder.now in
    let name = g.R.Job.Job.name in
    let started = g.R.Job.Job.started in
    let gives = g.R.Job.Job.gives in
    let old = spots_of c.args.bench.now in
    let mid = spots_of c.turn_to.new.self in
    let r = c.args.work.now.runs in
    let s = c.turn_to.new.runs in
    let k = c.args.name in
    let ks = c.args.path.now.items in
    let stuck = c.in-Err.stuck in
    let turned = subst (λ (bk : Book). TurnedTo name started gives bk old mid r s k (Err stuck)) c.requires.book (rw c.in-Err.is at (c.in_ok-came.ensures {u = tt}).turned) in
    let put = turn_put name started gives b old mid r s k (Err stuck) turned in
    let new = spots_of c.open_stop.new.bench in
    let path = c.open_stop.new.path.items in
    let at = name_of stuck in
    let begun = g.R.Rebuilder.begun c.args.rebuilder.now K b in
    let waits = (stop_waits name started gives b old mid r s k c.requires.standing.stands.rules stuck turned).0 in
    let pushed = (c.in_ok-push-in-Err.ensures {u = tt}).put in
    let opens = subst (λ (p : List (List ℕ)). OnOk c.open_stop.result (Opens name started (λ i j. begun (λ q. None) i j) b mid new p path at)) pushed c.open_stop.ensures.opens in
    let known = known_put old mid k (Stopped turned.after (name_of stuck)) put in
    on_ok_by c.open_stop.result (λ o q x is. (let one = known q x is in (known_opens name started (λ i j. begun (λ n. None) i j) b mid new (k ∷ ks) path at o).0 q one.0 one.1)) opens

pub returns-in_ok-push-in-Err-clause-goes : goal.returns-in_ok-push-in-Err-clause-goes
returns-in_ok-push-in-Err-clause-goes g c =
    let b = book_view c.args.book.now in
    let K = kept_view c.args.kept.now in
    let h = g.R.Rebuilder.how c.args.rebuilder.now in
    let name = g.R.Job.Job.name in
    let started = g.R.Job.Job.started in
    let gives = g.R.Job.Job.gives in
    let old = spots_of c.args.bench.now in
    let mid = spots_of c.turn_to.new.self in
    let r = c.args.work.now.runs in
    let s = c.turn_to.new.runs in
    let k = c.args.name in
    let ks = c.args.path.now.items in
    let stuck = c.in-Err.stuck in
    let turned = subst (λ (bk : Book). TurnedTo name started gives bk old mid r s k (Err stuck)) c.requires.book (rw c.in-Err.is at (c.in_ok-came.ensures {u = tt}).turned) in
    let put = turn_put name started gives b old mid r s k (Err stuck) turned in
    let new = spots_of c.open_stop.new.bench in
    let path = c.open_stop.new.path.items in
    let at = name_of stuck in
    let begun = g.R.Rebuilder.begun c.args.rebuilder.now K b in
    let waits = (stop_waits name started gives b old mid r s k c.requires.standing.stands.rules stuck turned).0 in
    let pushed = (c.in_ok-push-in-Err.ensures {u = tt}).put in
    let opens = subst (λ (p : List (List ℕ)). OnOk c.open_stop.result (Opens name started (λ i j. begun (λ q. None) i j) b mid new p path at)) pushed c.open_stop.ensures.opens in
    let fits = g.R.Job.Job.fits in
    on_ok_by c.open_stop.result
    (λ o ts H base going.
    let laws : Laws name started fits gives begun h K b = (record { keeps = λ s d l m i o turned core. c.turn_keeps.ensures.core b s d l m i o turned core; goes_on = λ t i p part further step q begun_so more is_part gave. g.met.R.Rebuilder.goes_on c.args.rebuilder.now K b H t i p part further step q base begun_so more is_part gave }) in
    let stopped = going_stopped name started fits gives begun h K b ts laws old mid k c.args.work.now.finished r s going stuck turned in
    going_opens name started fits begun h K b ts (λ t i j begun_so. g.met.R.Rebuilder.fits c.args.rebuilder.now K b H t i j base begun_so) mid new at c.args.work.now.finished s stopped (k ∷ ks) path (stop_treated fits begun h K b ts mid k at waits.0.0 stopped.along.known waits.0.1) o)
    opens

pub returns-in_ok-push-in-Err-clause-done : goal.returns-in_ok-push-in-Err-clause-done
returns-in_ok-push-in-Err-clause-done g c =
    let b = book_view c.args.book.now in
    let K = kept_view c.args.kept.now in
    let name = g.R.Job.Job.name in
    let started = g.R.Job.Job.started in
    let gives = g.R.Job.Job.gives in
    let keyed = g.R.Job.Job.keyed in
    let old = spots_of c.args.bench.now in
    let mid = spots_of c.turn_to.new.self in
    let r = c.args.work.now.runs in
    let s = c.turn_to.new.runs in
    let k = c.args.name in
    let ks = c.args.path.now.items in
    let stuck = c.in-Err.stuck in
    let turned = subst (λ (bk : Book). TurnedTo name started gives bk old mid r s k (Err stuck)) c.requires.book (rw c.in-Err.is at (c.in_ok-came.ensures {u = tt}).turned) in
    let put = turn_put name started gives b old mid r s k (Err stuck) turned in
    let new = spots_of c.open_stop.new.bench in
    let path = c.open_stop.new.path.items in
    let at = name_of stuck in
    let begun = g.R.Rebuilder.begun c.args.rebuilder.now K b in
    let pushed = (c.in_ok-push-in-Err.ensures {u = tt}).put in
    let opens = subst (λ (p : List (List ℕ)). OnOk c.open_stop.result (Opens name started (λ i j. begun (λ q. None) i j) b mid new p path at)) pushed c.open_stop.ensures.opens in
    on_ok_by c.open_stop.result
    (λ o has. done_opens keyed name started (λ i j. begun (λ q. None) i j) b mid new (k ∷ ks) path at c.args.work.now.finished
    (λ i j begun_so. g.met.R.Rebuilder.keyed c.args.rebuilder.now K b (λ q. None) i j begun_so)
    o
    (done_stopped keyed old mid k turned.after at c.args.work.now.finished put (c.turn_keeps.ensures.keys b old mid r s k None (stuck, turned) has.keys) has))
    opens
