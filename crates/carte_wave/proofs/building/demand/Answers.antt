use Rattle.std.proofs.Common.{ℕ, List, None, subst}
use Rattle.carte_book.specs.Book.{book_view}
use Rattle.carte_record.specs.Kept.{kept_view}
use Rattle.carte_bench.specs.Held.{spots_of}
use Rattle.carte_progress.specs.Opening.{Opens}
use Rattle.carte_progress.proofs.Answered.{on_ok_by}
use Rattle.carte_wave.proofs.building.demand.Goals as goal

pub returns-clause-demands : goal.returns-clause-demands
returns-clause-demands g c =
    let b = book_view c.args.book.now in
    let begun = g.R.Rebuilder.begun c.args.rebuilder.now (kept_view c.args.kept.now) b in
    let name = g.R.Job.Job.name in
    let started = g.R.Job.Job.started in
    let old = spots_of c.args.bench.now in
    let new = spots_of c.open.new.bench in
    let path = c.open.new.path.items in
    let copied = subst (λ (n : List ℕ). Opens name started (λ i j. begun (λ q. None) i j) b old new c.new-path.result.items path n) (c.in_ok-name.ensures {u = tt}) (c.in_ok-open.ensures {u = tt}).opens in
    let opens = subst (λ (p : List (List ℕ)). Opens name started (λ i j. begun (λ q. None) i j) b old new p path c.args.target.now) c.new-path.ensures.items copied in
    on_ok_by c.add_first.result (λ adds. (path, opens, adds)) c.add_first.ensures
