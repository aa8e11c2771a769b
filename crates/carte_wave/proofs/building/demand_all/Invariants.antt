use Rattle.std.proofs.Common.{◌≡◌, ℕ, List, [], None, take}
use Rattle.carte_value.specs.Truths.{Among}
use Rattle.carte_book.specs.Book.{book_view}
use Rattle.carte_book.specs.Needs.{IsRule}
use Rattle.carte_record.specs.Kept.{kept_view}
use Rattle.carte_bench.specs.Held.{spots_of, book_of}
use Rattle.carte_progress.specs.Standing.{IsDemanded}
use Rattle.carte_wave.specs.Front.{line_of}
use Rattle.carte_wave.specs.Standing.{IsLined, AreWanted}
use Rattle.carte_wave.specs.Waves.{DemandsEach}
use Rattle.carte_wave.proofs.building.demand_all.Given as goal

abbrev pub invariant-loop-at : goal.invariant-loop-at
invariant-loop-at g l = record {
  book : book_of l.bench ≡ book_view l.book;
  lined : IsLined g.R.Job.Job.name (book_view l.book) (spots_of l.bench) [] (line_of l.front);
  wanted : AreWanted (spots_of l.bench) (line_of l.front);
  demands : DemandsEach g.R.Job.Job.name g.R.Job.Job.started g.R.Job.Job.gives (λ k j. g.R.Rebuilder.begun l.rebuilder (kept_view l.kept) (book_view l.book) (λ q. None) k j) (g.R.Rebuilder.how l.rebuilder) (book_view l.book) (take l.at l.targets) (spots_of l.fn.bench) (spots_of l.bench);
  demanded : (t : List ℕ) → Among (take l.at l.targets) t → IsRule (book_view l.book) t → IsDemanded (spots_of l.bench) t;
}
