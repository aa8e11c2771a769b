use Rattle.std.proofs.Common.{◌≡◌, ℕ, List, None, Ok, Err, refl, ◌∙◌, subst}
use Rattle.carte_effect.specs.Jobs.{came}
use Rattle.carte_book.specs.Book.{Book, book_view}
use Rattle.carte_record.specs.Kept.{kept_view}
use Rattle.carte_bench.specs.declared.slot.Slot.TheVariants.{Ready}
use Rattle.carte_bench.specs.Held.{spots_of, book_of}
use Rattle.carte_bench.specs.Spots.{PutAt}
use Rattle.carte_bench.specs.Turns.{TurnedTo}
use Rattle.carte_rebuild.specs.Goes.{may_ask}
use Rattle.carte_topo.proofs.Finishing.{one_longer}
use Rattle.carte_topo.proofs.Keys.{key_more}
use Rattle.carte_topo.proofs.Treating.{no_stop, one_more}
use Rattle.carte_topo.proofs.building.treat.Goals as goal

pub returns-in_default-clause-advances : goal.returns-in_default-clause-advances
returns-in_default-clause-advances g c given ks next so =
    let r = c.args.rebuilder.now in
    let K = kept_view c.args.kept.now in
    let b = book_view c.args.book.now in
    let k = c.args.name.now in
    let job = c.in_ok-job.job in
    let start = c.in_ok-job.ensures {u = tt} in
    let fit = g.met.R.Rebuilder.fits r K b given.0 (λ (q : List ℕ). None) k job given.1 start.begun in
    let put = subst (λ (n : List ℕ). PutAt (spots_of c.args.bench.now) (spots_of c.demand_rule.new.self) n (Ready job)) start.name (c.in_ok-at.ensures {u = tt}).demanded in
    let turned = rw c.in_default.is at (c.in_ok-made.ensures {u = tt}).turned in
    let same : c.hinted-key.result ≡ k = c.hinted-key.ensures ∙ c.in_ok-copy.ensures {u = tt} in
    let keyed = subst (λ (n : List ℕ). TurnedTo g.R.Job.Job.name g.R.Job.Job.started g.R.Job.Job.gives (book_of c.demand_rule.new.self) (spots_of c.demand_rule.new.self) (spots_of c.turn.new.self) c.args.work.now.runs c.turn.new.runs n (Err turned.0)) same turned.1 in
    let here = subst (λ (d : Book). TurnedTo g.R.Job.Job.name g.R.Job.Job.started g.R.Job.Job.gives d (spots_of c.demand_rule.new.self) (spots_of c.turn.new.self) c.args.work.now.runs c.turn.new.runs k (Err turned.0)) (c.demand_rule.ensures.book ∙ c.requires.same_book) keyed in
    no_stop g.R.Job.Job.name g.R.Job.Job.started g.R.Job.Job.gives g.R.Job.Job.fits (g.R.Rebuilder.how r) K b (spots_of c.args.bench.now) (spots_of c.demand_rule.new.self) (spots_of c.turn.new.self) ks k job (may_ask (g.R.Rebuilder.how r) b k) c.args.work.now c.turn.new.runs (g.met.R.Job.Job g.world.𝓛 g.world.𝓜 g.world.𝓡 ((λ s x. x), (λ x. x), (λ x. x), λ x. x)).fits_on next so c.requires.unknown put fit turned.0 here

pub returns-clause-advances : goal.returns-clause-advances
returns-clause-advances g c given ks next so =
    let r = c.args.rebuilder.now in
    let K = kept_view c.args.kept.now in
    let b = book_view c.args.book.now in
    let k = c.args.name.now in
    let job = c.in_ok-job.job in
    let start = c.in_ok-job.ensures {u = tt} in
    let fit = g.met.R.Rebuilder.fits r K b given.0 (λ (q : List ℕ). None) k job given.1 start.begun in
    let put = subst (λ (n : List ℕ). PutAt (spots_of c.args.bench.now) (spots_of c.demand_rule.new.self) n (Ready job)) start.name (c.in_ok-at.ensures {u = tt}).demanded in
    let turned = rw c.in-Some.is at (c.in_ok-made.ensures {u = tt}).turned in
    let same : c.hinted-key.result ≡ k = c.hinted-key.ensures ∙ c.in_ok-copy.ensures {u = tt} in
    let keyed = subst (λ (n : List ℕ). TurnedTo g.R.Job.Job.name g.R.Job.Job.started g.R.Job.Job.gives (book_of c.demand_rule.new.self) (spots_of c.demand_rule.new.self) (spots_of c.turn.new.self) c.args.work.now.runs c.turn.new.runs n (Ok c.in-Some.made)) same turned in
    let here = subst (λ (d : Book). TurnedTo g.R.Job.Job.name g.R.Job.Job.started g.R.Job.Job.gives d (spots_of c.demand_rule.new.self) (spots_of c.turn.new.self) c.args.work.now.runs c.turn.new.runs k (Ok c.in-Some.made)) (c.demand_rule.ensures.book ∙ c.requires.same_book) keyed in
    let finished = c.in_ok-finished.ensures {u = tt} in
    one_more g.R.Job.Job.name g.R.Job.Job.started g.R.Job.Job.gives g.R.Job.Job.fits (g.R.Rebuilder.how r) K b (spots_of c.args.bench.now) (spots_of c.demand_rule.new.self) (spots_of c.turn.new.self) ks k job (may_ask (g.R.Rebuilder.how r) b k) c.args.work.now c.turn.new.runs (g.met.R.Job.Job g.world.𝓛 g.world.𝓜 g.world.𝓡 ((λ s x. x), (λ x. x), (λ x. x), λ x. x)).fits_on next so c.requires.unknown put fit
    (λ part a m q is_part gave. (g.met.R.Rebuilder.goes_on r K b given.0 (λ (n : List ℕ). None) k job part a (came m) q given.1 start.begun (λ i v never. cc) is_part gave).0)
    c.in-Some.made here c.in_ok-finished.finished finished.made finished.right start.idle _ (c.in_ok-push.ensures {u = tt}) refl

pub returns-clause-longer : goal.returns-clause-longer
returns-clause-longer g c = one_longer c.args.work.now.finished _ c.in_ok-finished.finished (c.in_ok-push.ensures {u = tt})

pub returns-clause-keys : goal.returns-clause-keys
returns-clause-keys g c =
    let r = c.args.rebuilder.now in
    let K = kept_view c.args.kept.now in
    let b = book_view c.args.book.now in
    let k = c.args.name.now in
    let job = c.in_ok-job.job in
    let start = c.in_ok-job.ensures {u = tt} in
    let put = subst (λ (n : List ℕ). PutAt (spots_of c.args.bench.now) (spots_of c.demand_rule.new.self) n (Ready job)) start.name (c.in_ok-at.ensures {u = tt}).demanded in
    let turned = rw c.in-Some.is at (c.in_ok-made.ensures {u = tt}).turned in
    let same : c.hinted-key.result ≡ k = c.hinted-key.ensures ∙ c.in_ok-copy.ensures {u = tt} in
    let here = subst (λ (n : List ℕ). TurnedTo g.R.Job.Job.name g.R.Job.Job.started g.R.Job.Job.gives (book_of c.demand_rule.new.self) (spots_of c.demand_rule.new.self) (spots_of c.turn.new.self) c.args.work.now.runs c.turn.new.runs n (Ok c.in-Some.made)) same turned in
    key_more g.R.Job.Job.keyed g.R.Job.Job.name g.R.Job.Job.started g.R.Job.Job.gives (g.met.R.Job.Job g.world.𝓛 g.world.𝓜 g.world.𝓡 ((λ s x. x), (λ x. x), (λ x. x), λ x. x)).keyed_on (book_of c.demand_rule.new.self) (spots_of c.args.bench.now) (spots_of c.demand_rule.new.self) (spots_of c.turn.new.self) c.args.work.now.runs c.turn.new.runs k job c.in-Some.made put
    (g.met.R.Rebuilder.keyed r K b (λ (q : List ℕ). None) k job start.begun) here c.args.work.now.finished _ c.in_ok-finished.finished (c.in_ok-finished.ensures {u = tt}).made (c.in_ok-push.ensures {u = tt})
