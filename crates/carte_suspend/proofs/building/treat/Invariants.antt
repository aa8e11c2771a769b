use Rattle.std.proofs.Common.{◌≡◌, ℕ, List}
use Rattle.carte_value.specs.Truths.{Among}
use Rattle.carte_book.specs.Book.{book_view}
use Rattle.carte_book.specs.Needs.{IsRule}
use Rattle.carte_bench.specs.Held.{spots_of, book_of}
use Rattle.carte_record.specs.Kept.{kept_view}
use Rattle.carte_suspend.specs.Going.{GoesOn}
use Rattle.carte_progress.specs.Progress.{StaysDone}
use Rattle.carte_progress.specs.Standing.{IsStanding, IsDemanded, StaysKnown, turns_left}
use Rattle.carte_suspend.proofs.building.treat.Given as goal

abbrev pub invariant-turns : goal.invariant-turns
invariant-turns g l = record {
  book : book_of l.bench ≡ book_view l.book;
  standing : IsStanding g.R.Job.Job.name (book_view l.book) (spots_of l.bench) l.path.items;
  goes : (ts : List (List ℕ)) → Among ts l.target → GoesOn g.R.Job.Job.started g.R.Job.Job.fits (g.R.Rebuilder.begun l.rebuilder (kept_view l.kept) (book_view l.book)) (g.R.Rebuilder.how l.rebuilder) (kept_view l.kept) (book_view l.book) ts (spots_of l.fn.bench) (spots_of l.bench) l.fn.work l.work;
  known : StaysKnown (spots_of l.fn.bench) (spots_of l.bench);
  done : StaysDone g.R.Job.Job.keyed (spots_of l.fn.bench) (spots_of l.bench) l.fn.work l.work;
  demanded : IsRule (book_view l.book) l.target → IsDemanded (spots_of l.bench) l.target;
  chain : l.work.chain ≡ l.fn.work.chain;
}

abbrev pub decreases-turns : goal.decreases-turns
decreases-turns g l = turns_left (book_view l.book) (spots_of l.bench) l.path.items
