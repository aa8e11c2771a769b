use Rattle.std.proofs.Common.{◌<◌, ℕ, List, None, length, take, refl, sym, subst, inl, inr, arith}
use Rattle.carte_value.specs.Truths.{Among}
use Rattle.carte_book.specs.Book.{book_view}
use Rattle.carte_book.specs.Needs.{IsRule}
use Rattle.carte_record.specs.Kept.{kept_view}
use Rattle.carte_bench.specs.Held.{spots_of}
use Rattle.carte_progress.specs.Standing.{IsDemanded}
use Rattle.carte_progress.proofs.Listing.{among_end}
use Rattle.carte_progress.proofs.Whys.{one_more}
use Rattle.carte_wave.specs.Front.{line_of}
use Rattle.carte_wave.specs.Waves.{DemandsEach}
use Rattle.carte_wave.proofs.Ended.{lined_opens, demands_end, known_one}
use Rattle.carte_wave.proofs.building.demand_all.Goals as goal

pub loop-at-init : goal.loop-at-init
loop-at-init g c = record {
  book = c.requires.book;
  lined = c.requires.lined;
  wanted = c.requires.wanted;
  demands = λ q. refl;
  demanded = λ t never is. absurd never;
}

pub loop-at-preserved : goal.loop-at-preserved
loop-at-preserved g c =
    let b = book_view c.args.book.now in
    let h = g.R.Rebuilder.how c.args.rebuilder.now in
    let name = g.R.Job.Job.name in
    let started = g.R.Job.Job.started in
    let gives = g.R.Job.Job.gives in
    let s = spots_of c.loop-at.bench in
    let d = spots_of c.demand.new.bench in
    let ts = c.args.targets.now in
    let at = c.loop-at.at in
    let t = c.index-targets-at.result in
    let below : at < length ts = omega arith in
    let ok = c.in_ok-demand.ensures {u = tt} in
    let before = c.loop-at.invariant in
    let more = one_more ts at t below c.index-targets-at.is in
    let one = ok.demands in
    let stands = lined_opens name started gives (λ k j. g.R.Rebuilder.begun c.args.rebuilder.now (kept_view c.args.kept.now) b (λ q. None) k j) h b s d one.0 t (line_of c.loop-at.front) (line_of c.demand.new.front) one.1 one.2 before.lined before.wanted in
    let known = known_one name started gives (λ k j. g.R.Rebuilder.begun c.args.rebuilder.now (kept_view c.args.kept.now) b (λ q. None) k j) h b s d one.0 t one.1 in
    record {
      book = ok.book;
      lined = stands.0;
      wanted = stands.1;
      demands = subst (λ (l : List (List ℕ)). DemandsEach name started gives (λ k j. g.R.Rebuilder.begun c.args.rebuilder.now (kept_view c.args.kept.now) b (λ q. None) k j) h b l (spots_of c.args.bench.now) d) (sym more) (demands_end name started gives (λ k j. g.R.Rebuilder.begun c.args.rebuilder.now (kept_view c.args.kept.now) b (λ q. None) k j) h b (take at ts) t (spots_of c.args.bench.now) s d before.demands (one.0, one.1));
      demanded = λ q here is. elim (among_end (take at ts) t q (subst (λ xs. Among xs q) more here)) [
        | inl there ↦ (let was = before.demanded q there is in known.0 q was.0 was.1)
        | inr same ↦ subst (λ i. IsRule b i → IsDemanded d i) (sym same) known.1 is
      ];
    }
