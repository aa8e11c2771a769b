use Rattle.std.proofs.Common.{◌≡◌, ℕ, List, length, take, None}
use Rattle.carte_value.specs.Truths.{Among}
use Rattle.carte_book.specs.Book.{book_view}
use Rattle.carte_record.specs.Kept.{kept_view}
use Rattle.carte_note.specs.Right.{keys_in}
use Rattle.carte_bench.specs.Held.{spots_of, book_of}
use Rattle.carte_rebuild.specs.Ends.{IsGiven}
use Rattle.carte_topo.specs.Building.{HaveNoJobs, IsSoFar}
use Rattle.carte_topo.proofs.building.treat_all.Given as goal

abbrev pub invariant-loop-at : goal.invariant-loop-at
invariant-loop-at g l = record {
  book : book_of l.bench ≡ book_view l.book;
  no_jobs : HaveNoJobs (spots_of l.bench);
  unknown : (q : List ℕ) → ¬ (Among (take l.at l.names) q) → spots_of l.bench q ≡ None;
  chain : l.work.chain ≡ None;
  keys : keys_in l.work.finished ≡ take l.at l.names;
  count : length l.work.finished ≡ l.at;
  so_far : IsGiven (kept_view l.kept) (book_view l.book) → IsSoFar g.R.Job.Job.fits (g.R.Rebuilder.how l.rebuilder) (kept_view l.kept) (book_view l.book) (spots_of l.bench) (take l.at l.names) l.work;
}
