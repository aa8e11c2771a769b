use Rattle.std.proofs.Common.{◌≡◌, ℕ, List, [], None, take}
use Rattle.carte_value.specs.Truths.{Among}
use Rattle.carte_book.specs.Book.{book_view}
use Rattle.carte_book.specs.Needs.{IsRule}
use Rattle.carte_record.specs.Kept.{kept_view}
use Rattle.carte_bench.specs.Held.{spots_of, book_of}
use Rattle.carte_progress.specs.Standing.{IsStanding, IsDemanded, StaysKnown}
use Rattle.carte_restart.specs.Going.{GoesOn}
use Rattle.carte_restart.specs.Schedule.{TreatsEach}
use Rattle.carte_restart.specs.Straight.{GoesStraight, IsPreparedOn}
use Rattle.carte_restart.proofs.building.treat_all.Given as goal

abbrev pub invariant-loop-at : goal.invariant-loop-at
invariant-loop-at g l = record {
  idle : l.path.items ≡ [];
  book : book_of l.bench ≡ book_view l.book;
  standing : IsStanding g.R.Job.Job.name (book_view l.book) (spots_of l.bench) [];
  goes : (ts : List (List ℕ)) → ((t : List ℕ) → Among l.names t → Among ts t) → GoesOn g.R.Job.Job.started g.R.Job.Job.fits (g.R.Rebuilder.begun l.rebuilder (kept_view l.kept) (book_view l.book)) (g.R.Rebuilder.how l.rebuilder) (kept_view l.kept) (book_view l.book) ts (spots_of l.fn.bench) (spots_of l.bench) l.fn.work l.work;
  known : StaysKnown (spots_of l.fn.bench) (spots_of l.bench);
  demanded : (t : List ℕ) → Among (take l.at l.names) t → IsRule (book_view l.book) t → IsDemanded (spots_of l.bench) t;
  straight : (ts : List (List ℕ)) → ((t : List ℕ) → Among l.names t → Among ts t) → GoesStraight g.R.Job.Job.started g.R.Job.Job.fits (g.R.Rebuilder.begun l.rebuilder (kept_view l.kept) (book_view l.book)) (g.R.Rebuilder.how l.rebuilder) (kept_view l.kept) (book_view l.book) ts (spots_of l.fn.bench) (spots_of l.bench) l.fn.work l.work (IsPreparedOn (book_view l.book) (spots_of l.fn.bench) l.names);
  treats : TreatsEach g.R.Job.Job.name g.R.Job.Job.started g.R.Job.Job.gives (λ k j. g.R.Rebuilder.begun l.rebuilder (kept_view l.kept) (book_view l.book) (λ q. None) k j) (g.R.Rebuilder.how l.rebuilder) (book_view l.book) (take l.at l.names) (record { spots = spots_of l.fn.bench; path = []; finished = l.fn.work.finished; runs = l.fn.work.runs }) (record { spots = spots_of l.bench; path = []; finished = l.work.finished; runs = l.work.runs });
}
