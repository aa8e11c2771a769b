use Rattle.std.proofs.Common.{ℕ, List, None, subst}
use Rattle.carte_book.specs.Book.{book_view}
use Rattle.carte_record.specs.Kept.{kept_view}
use Rattle.carte_bench.specs.Held.{spots_of}
use Rattle.carte_bench.specs.Spots.{name_of}
use Rattle.carte_progress.specs.Opening.{Opens}
use Rattle.carte_progress.proofs.Answered.{on_ok_by}
use Rattle.carte_wave.specs.Front.{line_of}
use Rattle.carte_wave.proofs.settle.follow.Goals as goal

pub returns-clause-follows : goal.returns-clause-follows
returns-clause-follows g c =
    let b = book_view c.args.book.now in
    let begun = g.R.Rebuilder.begun c.args.rebuilder.now (kept_view c.args.kept.now) b in
    let path = c.open_stop.new.path.items in
    let opens = subst (λ (p : List (List ℕ)). Opens g.R.Job.Job.name g.R.Job.Job.started (λ i j. begun (λ q. None) i j) b (spots_of c.args.bench.now) (spots_of c.open_stop.new.bench) p path (name_of c.args.stuck)) c.new-path.ensures.items (c.in_ok-open_stop.ensures {u = tt}).opens in
    on_ok_by c.add_first.result (λ adds. record {
      between = line_of c.register.new.front;
      registers = c.in_ok-register.ensures {u = tt};
      path = path;
      opens = opens;
      adds = adds;
    }) c.add_first.ensures
