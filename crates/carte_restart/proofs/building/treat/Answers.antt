use Rattle.std.proofs.Common.{◌≡◌, ℕ, List, [], ◌∷◌, None, length, drop, refl, ◌∙◌, subst, inl, arith}
use Rattle.carte_book.specs.Book.{book_view}
use Rattle.carte_record.specs.Kept.{kept_view}
use Rattle.carte_sound.specs.Treated.{IsTreated}
use Rattle.carte_bench.specs.Held.{spots_of}
use Rattle.carte_progress.specs.Standing.{IsStanding}
use Rattle.carte_progress.proofs.Opened.{halted_target, stands_opens, known_opens}
use Rattle.carte_restart.specs.Straight.{IsAhead}
use Rattle.carte_restart.proofs.Goings.{going_opens, opens_same}
use Rattle.carte_restart.proofs.Scheduled.{next_turn, went_all}
use Rattle.carte_restart.proofs.Straight.{ahead_opens, ahead_next, ahead_end}
use Rattle.carte_restart.proofs.building.treat.Goals as goal

no_names : (ks : List (List ℕ)) → length ks ≡ 0 → ks ≡ []
no_names [] none = refl
no_names (k ∷ ks) none = absurd (omega (arith, none))

pub turns-init : goal.turns-init
turns-init g c =
    let b = book_view c.args.book.now in
    let K = kept_view c.args.kept.now in
    let h = g.R.Rebuilder.how c.args.rebuilder.now in
    let begun = g.R.Rebuilder.begun c.args.rebuilder.now K b in
    let name = g.R.Job.Job.name in
    let started = g.R.Job.Job.started in
    let old = spots_of c.args.bench.now in
    let new = spots_of c.open.new.bench in
    let path = c.open.new.path.items in
    let n = c.args.target.now in
    let ok = c.in_ok-open.ensures {u = tt} in
    let opens = opens_same name started (λ i j. begun (λ q. None) i j) b old new [] path n c.args.path.now.items c.in_ok-name.name c.requires.idle (c.in_ok-name.ensures {u = tt}) ok.opens in
    let known = known_opens name started (λ i j. begun (λ q. None) i j) b old new [] path n opens in
    record {
      book = c.open.ensures.book ∙ c.requires.book;
      standing = stands_opens name b started (λ i j. begun (λ q. None) i j) old new [] n (halted_target name b old n c.requires.standing) path opens;
      goes = λ ts here H base going. going_opens name started g.R.Job.Job.fits begun h K b ts (λ t i j begun_so. g.met.R.Rebuilder.fits c.args.rebuilder.now K b H t i j base begun_so) old new n c.args.work.now.finished c.args.work.now.runs going [] path (λ is. IsTreated.target here is) opens;
      known = known.0;
      demanded = known.1;
      ahead = λ ts here H base going straight there. ahead_opens name started (λ i j. begun (λ q. None) i j) b old new c.args.work.now.runs path n opens straight there;
      went = λ e rest. record { first = new; path = path; opened = opens; turns = rest };
    }

pub turns-preserved : goal.turns-preserved
turns-preserved g c =
    let ok = c.in_ok-turn.ensures {u = tt} in
    let before = c.turns.invariant in
    record {
      book = ok.book;
      standing = ok.standing;
      goes = λ ts here H base going. ok.goes ts H base (before.goes ts here H base going);
      known = λ q x is. (let one = before.known q x is in ok.known q one.0 one.1);
      demanded = λ is. (let one = before.demanded is in ok.known c.args.target.now one.0 one.1);
      ahead = λ ts here H base going straight there.
          let now = subst (λ (p : List (List ℕ)). IsAhead (book_view c.args.book.now) (spots_of c.turns.bench) c.turns.work.runs p c.args.target.now) (c.in-Some.ensures {u = tt}).items (before.ahead ts here H base going straight there) in
          inl (ok.straight ts H c.args.target.now base (before.goes ts here H base going) (ahead_next (book_view c.args.book.now) (spots_of c.turns.bench) c.turns.work.runs c.in-Some.name c.pop_front.new.self.items c.args.target.now now));
      went = λ e rest. before.went e (next_turn g.R.Job.Job.name g.R.Job.Job.started g.R.Job.Job.gives (λ k j. g.R.Rebuilder.begun c.args.rebuilder.now (kept_view c.args.kept.now) (book_view c.args.book.now) (λ q. None) k j) (g.R.Rebuilder.how c.args.rebuilder.now) (book_view c.args.book.now) c.in-Some.name c.pop_front.new.self.items c.turns.path.items (spots_of c.turns.bench) c.turns.work.finished c.turns.work.runs
          (record { spots = spots_of c.turn.new.bench; path = c.turn.new.path.items; finished = c.turn.new.work.finished; runs = c.turn.new.work.runs }) e (c.in-Some.ensures {u = tt}).items ok.turns rest);
    }

pub returns-clause-idle : goal.returns-clause-idle
returns-clause-idle g c =
    let none = no_names c.turns.path.items (omega (arith, (c.in_default.ensures {u = tt}).cases.0, c.turns.path.ok.0)) in
    subst (λ (ks : List (List ℕ)). c.pop_front.new.self.items ≡ drop 1 ks) none c.pop_front.ensures.rest

pub returns-clause-standing : goal.returns-clause-standing
returns-clause-standing g c =
    let none = no_names c.turns.path.items (omega (arith, (c.in_default.ensures {u = tt}).cases.0, c.turns.path.ok.0)) in
    subst (IsStanding g.R.Job.Job.name (book_view c.args.book.now) (spots_of c.turns.bench)) none c.turns.invariant.standing

pub returns-clause-straight : goal.returns-clause-straight
returns-clause-straight g c =
    let none = no_names c.turns.path.items (omega (arith, (c.in_default.ensures {u = tt}).cases.0, c.turns.path.ok.0)) in
    λ ts here H base going straight there. ahead_end (book_view c.args.book.now) (spots_of c.turns.bench) c.turns.work.runs c.turns.path.items c.args.target.now none (c.turns.invariant.ahead ts here H base going straight there)

pub returns-clause-treats : goal.returns-clause-treats
returns-clause-treats g c =
    let none = no_names c.turns.path.items (omega (arith, (c.in_default.ensures {u = tt}).cases.0, c.turns.path.ok.0)) in
    went_all g.R.Job.Job.name g.R.Job.Job.started g.R.Job.Job.gives (λ k j. g.R.Rebuilder.begun c.args.rebuilder.now (kept_view c.args.kept.now) (book_view c.args.book.now) (λ q. None) k j) (g.R.Rebuilder.how c.args.rebuilder.now) (book_view c.args.book.now) c.args.target.now
    (record { spots = spots_of c.args.bench.now; path = []; finished = c.args.work.now.finished; runs = c.args.work.now.runs }) c.turns.path.items (spots_of c.turns.bench) c.turns.work.finished c.turns.work.runs none c.turns.invariant.went
