use Rattle.std.proofs.Common.{◌≡◌, [], None}
use Rattle.carte_book.specs.Book.{book_view}
use Rattle.carte_record.specs.Kept.{kept_view}
use Rattle.carte_bench.specs.Held.{spots_of, book_of}
use Rattle.carte_progress.specs.Standing.{StaysKnown}
use Rattle.carte_wave.specs.Front.{line_of}
use Rattle.carte_wave.specs.Standing.{IsLined, AreWanted, waves_left}
use Rattle.carte_wave.proofs.Builds.{WentOn}
use Rattle.carte_wave.proofs.building.wave_on.Given as goal

abbrev pub invariant-waves : goal.invariant-waves
invariant-waves g l = record {
  book : book_of l.bench ≡ book_view l.book;
  lined : IsLined g.R.Job.Job.name (book_view l.book) (spots_of l.bench) [] (line_of l.front);
  wanted : AreWanted (spots_of l.bench) (line_of l.front);
  went : WentOn g.R.Job.Job.name g.R.Job.Job.started g.R.Job.Job.gives (λ k j. g.R.Rebuilder.begun l.rebuilder (kept_view l.kept) (book_view l.book) (λ q. None) k j) (g.R.Rebuilder.how l.rebuilder) (book_view l.book) (record { spots = spots_of l.fn.bench; finished = l.fn.work.finished; runs = l.fn.work.runs }) (record { spots = spots_of l.bench; finished = l.work.finished; runs = l.work.runs });
  known : StaysKnown (spots_of l.fn.bench) (spots_of l.bench);
  chain : l.work.chain ≡ l.fn.work.chain;
}

abbrev pub decreases-waves : goal.decreases-waves
decreases-waves g l = waves_left (book_view l.book) (spots_of l.bench) l.front.ready.keys
