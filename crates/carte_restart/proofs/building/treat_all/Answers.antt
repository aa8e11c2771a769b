use Rattle.std.proofs.Common.{◌<◌, ◌+◌, None, length, take, sym, subst, inl, inr, arith}
use Rattle.carte_value.specs.Truths.{Among}
use Rattle.carte_book.specs.Book.{book_view}
use Rattle.carte_book.specs.Needs.{IsRule}
use Rattle.carte_record.specs.Kept.{kept_view}
use Rattle.carte_bench.specs.Held.{spots_of}
use Rattle.carte_progress.specs.Standing.{IsDemanded}
use Rattle.carte_progress.proofs.Listing.{among_end}
use Rattle.carte_progress.proofs.Whys.{one_more, item_among}
use Rattle.carte_restart.proofs.Scheduled.{treats_more}
use Rattle.carte_restart.proofs.Straight.{next_there}
use Rattle.carte_restart.proofs.building.treat_all.Goals as goal

pub loop-at-preserved : goal.loop-at-preserved
loop-at-preserved g c =
    let ts = c.args.names.now in
    let at = c.loop-at.at in
    let t = c.index-names-at.result in
    let below : at < length ts = omega arith in
    let ok = c.in_ok-treat.ensures {u = tt} in
    let before = c.loop-at.invariant in
    let here = item_among ts at t below c.index-names-at.is in
    let b = book_view c.args.book.now in
    let h = g.R.Rebuilder.how c.args.rebuilder.now in
    let name = g.R.Job.Job.name in
    let started = g.R.Job.Job.started in
    let gives = g.R.Job.Job.gives in
    let begun = g.R.Rebuilder.begun c.args.rebuilder.now (kept_view c.args.kept.now) b in
    record {
      idle = ok.idle;
      book = ok.book;
      standing = ok.standing;
      goes = λ all within H base going. ok.goes all (within t here) H base (before.goes all within H base going);
      known = λ q x is. (let one = before.known q x is in ok.known q one.0 one.1);
      demanded = λ q there is. elim (among_end (take at ts) t q (subst (λ xs. Among xs q) (one_more ts at t below c.index-names-at.is) there)) [
        | inl first ↦ (let one = before.demanded q first is in ok.known q one.0 one.1)
        | inr same ↦ subst (λ i. IsRule (book_view c.args.book.now) i → IsDemanded (spots_of c.treat.new.bench) i) (sym same) ok.demanded is
      ];
      straight = λ all within H base going straight prepared.
          let now = before.straight all within H base going straight prepared in
          ok.straight all (within t here) H base (before.goes all within H base going) now (λ is. next_there (book_view c.args.book.now) (spots_of c.args.bench.now) (spots_of c.loop-at.bench) c.loop-at.work.runs ts at t below c.index-names-at.is prepared (λ j there. before.known j there.0 there.1) before.demanded now is);
      treats = treats_more name started gives (λ k j. begun (λ q. None) k j) h b (take at ts) (take (at + 1) ts) t (spots_of c.args.bench.now) (spots_of c.loop-at.bench) (spots_of c.treat.new.bench) c.args.work.now c.loop-at.work c.treat.new.work (one_more ts at t below c.index-names-at.is) before.treats ok.treats;
    }
