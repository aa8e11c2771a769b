use Rattle.std.proofs.Common.{◌≡◌, None, length}
use Rattle.carte_book.specs.Book.{book_view}
use Rattle.carte_record.specs.Kept.{kept_view}
use Rattle.carte_bench.specs.Held.{spots_of, book_of}
use Rattle.carte_wave.specs.Front.{line_of}
use Rattle.carte_wave.specs.Settling.{AreBack}
use Rattle.carte_wave.proofs.Settled.{Went}
use Rattle.carte_wave.proofs.settle.settle_all.Given as goal

abbrev pub invariant-jobs : goal.invariant-jobs
invariant-jobs g l = record {
  book : book_of l.bench ≡ book_view l.book;
  back : AreBack g.R.Job.Job.name (book_view l.book) (spots_of l.bench) l.driven.items;
  went : Went g.R.Job.Job.name g.R.Job.Job.started (λ k j. g.R.Rebuilder.begun l.rebuilder (kept_view l.kept) (book_view l.book) (λ q. None) k j) (g.R.Rebuilder.how l.rebuilder) (book_view l.book) l.fn.driven.items l.driven.items (spots_of l.fn.bench) (spots_of l.bench) (line_of l.fn.front) (line_of l.front) l.fn.work.finished l.work.finished;
  runs : l.work.runs ≡ l.fn.work.runs;
  chain : l.work.chain ≡ l.fn.work.chain;
}

abbrev pub decreases-jobs : goal.decreases-jobs
decreases-jobs g l = length l.driven.items
