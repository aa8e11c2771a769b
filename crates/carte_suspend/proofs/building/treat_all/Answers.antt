use Rattle.std.proofs.Common.{◌<◌, length, take, sym, ◌∙◌, subst, inl, inr, arith}
use Rattle.carte_value.specs.Truths.{Among}
use Rattle.carte_book.specs.Book.{book_view}
use Rattle.carte_book.specs.Needs.{IsRule}
use Rattle.carte_bench.specs.Held.{spots_of}
use Rattle.carte_progress.specs.Standing.{IsDemanded}
use Rattle.carte_progress.proofs.Listing.{among_end}
use Rattle.carte_progress.proofs.Whys.{one_more, item_among}
use Rattle.carte_suspend.proofs.building.treat_all.Goals as goal

pub loop-at-preserved : goal.loop-at-preserved
loop-at-preserved g c =
    let ts = c.args.targets.now in
    let at = c.loop-at.at in
    let t = c.index-targets-at.result in
    let below : at < length ts = omega arith in
    let ok = c.in_ok-treat.ensures {u = tt} in
    let before = c.loop-at.invariant in
    record {
      book = ok.book;
      standing = ok.standing;
      goes = λ H base going. ok.goes ts (item_among ts at t below c.index-targets-at.is) H base (before.goes H base going);
      done = λ has. ok.done (before.done has);
      demanded = λ q here is. elim (among_end (take at ts) t q (subst (λ xs. Among xs q) (one_more ts at t below c.index-targets-at.is) here)) [
        | inl there ↦ (let one = before.demanded q there is in ok.known q one.0 one.1)
        | inr same ↦ subst (λ i. IsRule (book_view c.args.book.now) i → IsDemanded (spots_of c.treat.new.bench) i) (sym same) ok.demanded is
      ];
      chain = ok.chain ∙ before.chain;
    }
