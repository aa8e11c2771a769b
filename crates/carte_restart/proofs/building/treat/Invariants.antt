use Rattle.std.proofs.Common.{◌≡◌, ℕ, List, [], None}
use Rattle.carte_value.specs.Truths.{Among}
use Rattle.carte_book.specs.Book.{Book, book_view}
use Rattle.carte_book.specs.Needs.{IsRule}
use Rattle.carte_record.specs.Kept.{kept_view}
use Rattle.carte_sound.specs.Base.{IsBase}
use Rattle.carte_rebuild.specs.Goes.{AreThere}
use Rattle.carte_bench.specs.Held.{spots_of, book_of}
use Rattle.carte_bench.specs.Spots.{seen_in}
use Rattle.carte_progress.specs.Standing.{IsStanding, IsDemanded, StaysKnown, turns_left}
use Rattle.carte_restart.specs.Going.{GoesOn, IsRestarting}
use Rattle.carte_restart.specs.Straight.{IsAhead, IsStraight}
use Rattle.carte_restart.proofs.Scheduled.{WentOn}
use Rattle.carte_restart.proofs.building.treat.Given as goal

abbrev pub invariant-turns : goal.invariant-turns
invariant-turns g l = record {
  book : book_of l.bench ≡ book_view l.book;
  standing : IsStanding g.R.Job.Job.name (book_view l.book) (spots_of l.bench) l.path.items;
  goes : (ts : List (List ℕ)) → Among ts l.target → GoesOn g.R.Job.Job.started g.R.Job.Job.fits (g.R.Rebuilder.begun l.rebuilder (kept_view l.kept) (book_view l.book)) (g.R.Rebuilder.how l.rebuilder) (kept_view l.kept) (book_view l.book) ts (spots_of l.fn.bench) (spots_of l.bench) l.fn.work l.work;
  known : StaysKnown (spots_of l.fn.bench) (spots_of l.bench);
  demanded : IsRule (book_view l.book) l.target → IsDemanded (spots_of l.bench) l.target;
  ahead : (ts : List (List ℕ)) → Among ts l.target → (H : List Book) → IsBase (kept_view l.kept) (book_view l.book) H → IsRestarting g.R.Job.Job.started g.R.Job.Job.fits (g.R.Rebuilder.begun l.rebuilder (kept_view l.kept) (book_view l.book)) (g.R.Rebuilder.how l.rebuilder) (kept_view l.kept) (book_view l.book) ts (spots_of l.fn.bench) l.fn.work.finished l.fn.work.runs → IsStraight (spots_of l.fn.bench) l.fn.work.runs → (IsRule (book_view l.book) l.target → AreThere (book_view l.book) (seen_in (book_view l.book) (spots_of l.fn.bench)) l.target) → IsAhead (book_view l.book) (spots_of l.bench) l.work.runs l.path.items l.target;
  went : WentOn g.R.Job.Job.name g.R.Job.Job.started g.R.Job.Job.gives (λ k j. g.R.Rebuilder.begun l.rebuilder (kept_view l.kept) (book_view l.book) (λ q. None) k j) (g.R.Rebuilder.how l.rebuilder) (book_view l.book) l.target (record { spots = spots_of l.fn.bench; path = []; finished = l.fn.work.finished; runs = l.fn.work.runs }) (record { spots = spots_of l.bench; path = l.path.items; finished = l.work.finished; runs = l.work.runs });
}

abbrev pub decreases-turns : goal.decreases-turns
decreases-turns g l = turns_left (book_view l.book) (spots_of l.bench) l.path.items
