use Rattle.std.proofs.Common.{◌≡◌, ℕ, List, [], ◌∷◌, None, length, refl, ◌∙◌, subst, arith}
use Rattle.carte_book.specs.Book.{book_view}
use Rattle.carte_record.specs.Kept.{kept_view}
use Rattle.carte_sound.specs.Treated.{IsTreated}
use Rattle.carte_bench.specs.Held.{spots_of}
use Rattle.carte_progress.specs.Opening.{Opens}
use Rattle.carte_progress.specs.Standing.{IsStanding}
use Rattle.carte_progress.proofs.Done.{done_opens}
use Rattle.carte_progress.proofs.Opened.{halted_target, stands_opens, known_opens}
use Rattle.carte_progress.proofs.Goings.{going_opens}
use Rattle.carte_suspend.proofs.building.treat.Goals as goal

no_names : (ks : List (List ℕ)) → length ks ≡ 0 → ks ≡ []
no_names [] none = refl
no_names (k ∷ ks) none = absurd (omega (arith, none))

pub turns-init : goal.turns-init
turns-init g c =
    let b = book_view c.args.book.now in
    let K = kept_view c.args.kept.now in
    let h = g.R.Rebuilder.how c.args.rebuilder.now in
    let begun = g.R.Rebuilder.begun c.args.rebuilder.now K b in
    let name = g.R.Job.Job.name in
    let started = g.R.Job.Job.started in
    let old = spots_of c.args.bench.now in
    let new = spots_of c.open.new.bench in
    let path = c.open.new.path.items in
    let n = c.args.target.now in
    let ok = c.in_ok-open.ensures {u = tt} in
    let copied = subst (λ (i : List ℕ). Opens name started (λ i j. begun (λ q. None) i j) b old new c.new-path.result.items path i) (c.in_ok-name.ensures {u = tt}) ok.opens in
    let opens = subst (λ (p : List (List ℕ)). Opens name started (λ i j. begun (λ q. None) i j) b old new p path n) c.new-path.ensures.items copied in
    let known = known_opens name started (λ i j. begun (λ q. None) i j) b old new [] path n opens in
    record {
      book = c.open.ensures.book ∙ c.requires.book;
      standing = stands_opens name b started (λ i j. begun (λ q. None) i j) old new [] n (halted_target name b old n c.requires.standing) path opens;
      goes = λ ts here H base going. going_opens name started g.R.Job.Job.fits begun h K b ts (λ t i j begun_so. g.met.R.Rebuilder.fits c.args.rebuilder.now K b H t i j base begun_so) old new n c.args.work.now.finished c.args.work.now.runs going [] path (λ is. IsTreated.target here is) opens;
      known = known.0;
      done = λ has. done_opens g.R.Job.Job.keyed name started (λ i j. begun (λ q. None) i j) b old new [] path n c.args.work.now.finished (λ i j begun_so. g.met.R.Rebuilder.keyed c.args.rebuilder.now K b (λ q. None) i j begun_so) opens has;
      demanded = known.1;
      chain = refl;
    }

pub turns-preserved : goal.turns-preserved
turns-preserved g c =
    let ok = c.in_ok-turn.ensures {u = tt} in
    let before = c.turns.invariant in
    record {
      book = ok.book;
      standing = ok.standing;
      goes = λ ts here H base going. ok.goes ts H base (before.goes ts here H base going);
      known = λ q x is. (let one = before.known q x is in ok.known q one.0 one.1);
      done = λ has. ok.done (before.done has);
      demanded = λ is. (let one = before.demanded is in ok.known c.args.target.now one.0 one.1);
      chain = ok.chain ∙ before.chain;
    }

pub returns-clause-standing : goal.returns-clause-standing
returns-clause-standing g c =
    let none = no_names c.turns.path.items (omega (arith, (c.in_default.ensures {u = tt}).cases.0, c.turns.path.ok.0)) in
    subst (IsStanding g.R.Job.Job.name (book_view c.args.book.now) (spots_of c.turns.bench)) none c.turns.invariant.standing
