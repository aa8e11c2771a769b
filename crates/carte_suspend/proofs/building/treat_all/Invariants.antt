use Rattle.std.proofs.Common.{◌≡◌, ℕ, List, [], take}
use Rattle.carte_value.specs.Truths.{Among}
use Rattle.carte_book.specs.Book.{book_view}
use Rattle.carte_book.specs.Needs.{IsRule}
use Rattle.carte_bench.specs.Held.{spots_of, book_of}
use Rattle.carte_record.specs.Kept.{kept_view}
use Rattle.carte_suspend.specs.Going.{GoesOn}
use Rattle.carte_progress.specs.Progress.{StaysDone}
use Rattle.carte_progress.specs.Standing.{IsStanding, IsDemanded}
use Rattle.carte_suspend.proofs.building.treat_all.Given as goal

abbrev pub invariant-loop-at : goal.invariant-loop-at
invariant-loop-at g l = record {
  book : book_of l.bench ≡ book_view l.book;
  standing : IsStanding g.R.Job.Job.name (book_view l.book) (spots_of l.bench) [];
  goes : GoesOn g.R.Job.Job.started g.R.Job.Job.fits (g.R.Rebuilder.begun l.rebuilder (kept_view l.kept) (book_view l.book)) (g.R.Rebuilder.how l.rebuilder) (kept_view l.kept) (book_view l.book) l.targets (spots_of l.fn.bench) (spots_of l.bench) l.fn.work l.work;
  done : StaysDone g.R.Job.Job.keyed (spots_of l.fn.bench) (spots_of l.bench) l.fn.work l.work;
  demanded : (t : List ℕ) → Among (take l.at l.targets) t → IsRule (book_view l.book) t → IsDemanded (spots_of l.bench) t;
  chain : l.work.chain ≡ l.fn.work.chain;
}
