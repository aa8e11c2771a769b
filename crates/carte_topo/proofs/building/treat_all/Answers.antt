use Rattle.std.proofs.Common.{◌≡◌, ℕ, ◌+◌, List, [], ◌∷◌, ◌++◌, length, ap, sym, ◌∙◌, subst, take, arith}
use Rattle.std.proofs.lemmas.List.{take_all}
use Rattle.std.proofs.lemmas.Result.{err_from_is_err_and}
use Rattle.carte_book.specs.Book.{book_view}
use Rattle.carte_record.specs.Kept.{kept_view}
use Rattle.carte_note.specs.Right.{keys_in}
use Rattle.carte_bench.specs.Held.{spots_of}
use Rattle.carte_bench.specs.Spots.{job_in}
use Rattle.carte_topo.specs.Building.{IsSoFar}
use Rattle.carte_topo.proofs.Treated.{next_at, reads_at, one_taken, take_none, not_before, all_treated, none_given_up, none_so_far, still_unknown, stops_so}
use Rattle.carte_topo.proofs.building.treat_all.Goals as goal

pub loop-at-init : goal.loop-at-init
loop-at-init g c = record {
  book = c.new-bench.ensures.book;
  no_jobs = λ q. ap job_in (c.new-bench.ensures.empty q);
  unknown = λ q apart. c.new-bench.ensures.empty q;
  chain = (c.in_ok-work.ensures {u = tt}).chain;
  keys = ap keys_in (c.in_ok-work.ensures {u = tt}).finished ∙ sym (take_none c.args.names.now);
  count = ap length (c.in_ok-work.ensures {u = tt}).finished;
  so_far = λ given. none_so_far g.R.Job.Job.fits (g.R.Rebuilder.how c.args.rebuilder.now) (kept_view c.args.kept.now) (book_view c.args.book.now) (spots_of c.new-bench.result) c.args.names.now c.in_ok-work.work c.new-bench.ensures.empty (c.in_ok-work.ensures {u = tt}).finished (c.in_ok-work.ensures {u = tt}).runs;
}

pub treat-requires-clause-is_rule : goal.treat-requires-clause-is_rule
treat-requires-clause-is_rule g c _ _ =
    let here = reads_at c.args.names.now c.loop-at.at c.index-names-at.result (omega arith) c.index-names-at.is in
    let next = next_at (book_view c.args.book.now) [] c.args.names.now c.loop-at.at c.index-names-at.result here c.requires.in_order in
    (next.formula, next.is_rule)

pub treat-requires-clause-unknown : goal.treat-requires-clause-unknown
treat-requires-clause-unknown g c _ _ =
    let here = reads_at c.args.names.now c.loop-at.at c.index-names-at.result (omega arith) c.index-names-at.is in
    c.loop-at.invariant.unknown c.index-names-at.result (not_before c.args.names.now c.loop-at.at c.index-names-at.result here c.requires.once)

pub returns-in_err-treat : goal.returns-in_err-treat
returns-in_err-treat g c =
    let names = c.args.names.now in
    let here = reads_at names c.loop-at.at c.index-names-at.result (omega arith) c.index-names-at.is in
    let next = next_at (book_view c.args.book.now) [] names c.loop-at.at c.index-names-at.result here c.requires.in_order in
    let p = err_from_is_err_and c.from_residual-in_err-treat.result c.from_residual-in_err-treat.ensures.1 in
    rw (p.1, p.2) (stops_so g.R.Job.Job.fits (g.R.Rebuilder.how c.args.rebuilder.now) (kept_view c.args.kept.now) (book_view c.args.book.now) (spots_of c.loop-at.bench) (spots_of c.treat.new.bench) (take c.loop-at.at names) names c.loop-at.work c.treat.new.work c.index-names-at.result c.in_err-treat.field-0.0 (c.in_err-treat.ensures {u = tt}).advances next c.loop-at.invariant.so_far)

pub loop-at-preserved : goal.loop-at-preserved
loop-at-preserved g c =
    let names = c.args.names.now in
    let at = c.loop-at.at in
    let k = c.index-names-at.result in
    let here = reads_at names at k (omega arith) c.index-names-at.is in
    let more : take (at + 1) names ≡ take at names ++ k ∷ [] = one_taken names at k (omega arith) c.index-names-at.is in
    let next = next_at (book_view c.args.book.now) [] names at k here c.requires.in_order in
    let ok = c.in_ok-treat.ensures {u = tt} in
    record {
      book = ok.book ∙ c.loop-at.invariant.book;
      no_jobs = ok.no_jobs;
      unknown = still_unknown (spots_of c.loop-at.bench) (spots_of c.treat.new.bench) (take at names) (take (at + 1) names) k more ok.others c.loop-at.invariant.unknown;
      chain = ok.chain ∙ c.loop-at.invariant.chain;
      keys = ok.keys ∙ ap (λ (ks : List (List ℕ)). ks ++ k ∷ []) c.loop-at.invariant.keys ∙ sym more;
      count = ok.longer ∙ ap (λ n. n + 1) c.loop-at.invariant.count;
      so_far = λ given. subst (λ (l : List (List ℕ)). IsSoFar g.R.Job.Job.fits (g.R.Rebuilder.how c.args.rebuilder.now) (kept_view c.args.kept.now) (book_view c.args.book.now) (spots_of c.treat.new.bench) l c.treat.new.work) (sym more) (ok.advances given (take at names) next (c.loop-at.invariant.so_far given));
    }

pub returns : goal.returns
returns g c =
    let names = c.args.names.now in
    let h = g.R.Rebuilder.how c.args.rebuilder.now in
    let K = kept_view c.args.kept.now in
    let b = book_view c.args.book.now in
    let all : take c.loop-at.at names ≡ names = take_all c.loop-at.at names (omega arith) in (
      c.loop-at.invariant.chain,
      c.loop-at.invariant.count ∙ omega arith,
      (λ given.
          let so = subst (λ (l : List (List ℕ)). IsSoFar g.R.Job.Job.fits h K b (spots_of c.loop-at.bench) l c.loop-at.work) all (c.loop-at.invariant.so_far given) in (
            all_treated g.R.Job.Job.fits h K b (spots_of c.loop-at.bench) names c.loop-at.work so c.requires.once,
            none_given_up g.R.Job.Job.fits h K b (spots_of c.loop-at.bench) names c.loop-at.work so c.requires.once,
          )),
      c.loop-at.invariant.keys ∙ all,
    )
