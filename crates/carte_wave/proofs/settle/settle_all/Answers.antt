use Rattle.std.proofs.Common.{◌≡◌, ◌∷◌, None, ◌∙◌, arith, refl}
use Rattle.carte_book.specs.Book.{book_view}
use Rattle.carte_record.specs.Kept.{kept_view}
use Rattle.carte_bench.specs.Held.{spots_of}
use Rattle.carte_wave.specs.Front.{line_of}
use Rattle.carte_wave.proofs.Drives.{no_items}
use Rattle.carte_wave.proofs.Settled.{back_out, back_stop, back_rest, went_one, went_all}
use Rattle.carte_wave.proofs.settle.settle_all.Goals as goal

pub jobs-init : goal.jobs-init
jobs-init g c = record {
  book = c.requires.book;
  back = c.requires.back;
  went = λ d g gs settles. settles;
  runs = refl;
  chain = refl;
}

pub settle-requires-clause-out : goal.settle-requires-clause-out
settle-requires-clause-out g c κs within =
    let b = book_view c.args.book.now in
    let s = spots_of c.jobs.bench in
    let one = c.in-Some.one in
    let rest = c.pop_front.new.self.items in
    let parts : c.jobs.driven.items ≡ one ∷ rest = rw c.in-Some.is at c.pop_front.ensures.items in
    back_out g.R.Job.Job.name g.R.Job.Job.started (λ k j. g.R.Rebuilder.begun c.args.rebuilder.now (kept_view c.args.kept.now) b (λ q. None) k j) (g.R.Rebuilder.how c.args.rebuilder.now) b s one rest (rw parts at c.jobs.invariant.back)

pub settle-requires-clause-stop : goal.settle-requires-clause-stop
settle-requires-clause-stop g c κs within =
    let b = book_view c.args.book.now in
    let s = spots_of c.jobs.bench in
    let one = c.in-Some.one in
    let rest = c.pop_front.new.self.items in
    let parts : c.jobs.driven.items ≡ one ∷ rest = rw c.in-Some.is at c.pop_front.ensures.items in
    back_stop g.R.Job.Job.name g.R.Job.Job.started (λ k j. g.R.Rebuilder.begun c.args.rebuilder.now (kept_view c.args.kept.now) b (λ q. None) k j) (g.R.Rebuilder.how c.args.rebuilder.now) b s one rest (rw parts at c.jobs.invariant.back)

pub jobs-preserved : goal.jobs-preserved
jobs-preserved g c =
    let b = book_view c.args.book.now in
    let name = g.R.Job.Job.name in
    let started = g.R.Job.Job.started in
    let h = g.R.Rebuilder.how c.args.rebuilder.now in
    let s = spots_of c.jobs.bench in
    let d = spots_of c.settle.new.bench in
    let f = line_of c.jobs.front in
    let l = line_of c.settle.new.front in
    let fs = c.jobs.work.finished in
    let gs = c.settle.new.work.finished in
    let one = c.in-Some.one in
    let rest = c.pop_front.new.self.items in
    let parts : c.jobs.driven.items ≡ one ∷ rest = rw c.in-Some.is at c.pop_front.ensures.items in
    let before = c.jobs.invariant in
    let ok = c.in_ok-settle.ensures {u = tt} in
    record {
      book = ok.book;
      back = back_rest name started (λ k j. g.R.Rebuilder.begun c.args.rebuilder.now (kept_view c.args.kept.now) b (λ q. None) k j) h b s d f l fs gs one rest (rw parts at before.back) ok.settles;
      went = went_one name started (λ k j. g.R.Rebuilder.begun c.args.rebuilder.now (kept_view c.args.kept.now) b (λ q. None) k j) h b c.args.driven.items c.jobs.driven.items rest one (spots_of c.args.bench.now) s d (line_of c.args.front.now) f l c.args.work.now.finished fs gs parts before.went ok.settles;
      runs = ok.runs ∙ before.runs;
      chain = ok.chain ∙ before.chain;
    }

pub returns-clause-settles : goal.returns-clause-settles
returns-clause-settles g c =
    let b = book_view c.args.book.now in
    let none = no_items c.jobs.driven.items (omega (arith, (c.in_default.ensures {u = tt}).cases.0, c.jobs.driven.ok.0)) in
    went_all g.R.Job.Job.name g.R.Job.Job.started (λ k j. g.R.Rebuilder.begun c.args.rebuilder.now (kept_view c.args.kept.now) b (λ q. None) k j) (g.R.Rebuilder.how c.args.rebuilder.now) b c.args.driven.items c.jobs.driven.items (spots_of c.args.bench.now) (spots_of c.jobs.bench) (line_of c.args.front.now) (line_of c.jobs.front) c.args.work.now.finished c.jobs.work.finished none c.jobs.invariant.went
