use Rattle.std.proofs.Common.{◌≡◌, None, ◌∙◌, subst}
use Rattle.carte_book.specs.Book.{Book, book_view}
use Rattle.carte_record.specs.Kept.{kept_view}
use Rattle.carte_effect.specs.Ledger.{no_runs, with_later}
use Rattle.carte_bench.specs.Held.{spots_of}
use Rattle.carte_bench.specs.Spots.{sight_in}
use Rattle.carte_wave.specs.Drives.{DroveAll}
use Rattle.carte_wave.specs.Front.{line_of}
use Rattle.carte_wave.proofs.Waved.{taken_ready, taken_once, wave_back, whole, waves_fewer, on_ok_both}
use Rattle.carte_wave.proofs.waves.wave.Goals as goal

pub take_all-requires-clause-ready : goal.take_all-requires-clause-ready
take_all-requires-clause-ready g c =
    let v = spots_of c.args.bench.now in
    taken_ready g.R.Job.Job.name (book_view c.args.book.now) v v (line_of c.args.front.now) (line_of c.take-keys.new.self) c.take-keys.result c.take-keys.ensures c.requires.lined

pub take_all-requires-clause-once : goal.take_all-requires-clause-once
take_all-requires-clause-once g c =
    let v = spots_of c.args.bench.now in
    taken_once g.R.Job.Job.name (book_view c.args.book.now) v v (line_of c.args.front.now) (line_of c.take-keys.new.self) c.take-keys.result c.take-keys.ensures c.requires.lined

pub settle_all-requires-clause-back : goal.settle_all-requires-clause-back
settle_all-requires-clause-back g c κs within =
    let b = book_view c.args.book.now in
    let name = g.R.Job.Job.name in
    let started = g.R.Job.Job.started in
    let gives = g.R.Job.Job.gives in
    let h = g.R.Rebuilder.how c.args.rebuilder.now in
    let v = spots_of c.args.bench.now in
    let s = spots_of c.take_all.new.bench in
    let f = line_of c.args.front.now in
    let l = line_of c.take-keys.new.self in
    let keys = c.take-keys.result in
    let ps = c.in_ok-jobs.jobs.items in
    let ds = c.in_ok-came.came.driven.items in
    let q = c.in_ok-came.came.runs in
    let told = c.in_ok-jobs.ensures {u = tt} in
    let drove = subst (λ (bk : Book). DroveAll name started gives (sight_in bk s) ps ds no_runs q) (c.take_all.ensures.book ∙ c.requires.book) (c.in_ok-came.ensures {u = tt}) in
    wave_back name started gives (λ k j. g.R.Rebuilder.begun c.args.rebuilder.now (kept_view c.args.kept.now) b (λ i. None) k j) h b v s f l keys c.take-keys.ensures c.requires.lined c.requires.wanted ps told.jobs told.out ds q drove

pub returns-clause-lined : goal.returns-clause-lined
returns-clause-lined g c =
    let b = book_view c.args.book.now in
    let name = g.R.Job.Job.name in
    let started = g.R.Job.Job.started in
    let gives = g.R.Job.Job.gives in
    let h = g.R.Rebuilder.how c.args.rebuilder.now in
    let v = spots_of c.args.bench.now in
    let s = spots_of c.take_all.new.bench in
    let f = line_of c.args.front.now in
    let l = line_of c.take-keys.new.self in
    let keys = c.take-keys.result in
    let ps = c.in_ok-jobs.jobs.items in
    let ds = c.in_ok-came.came.driven.items in
    let q = c.in_ok-came.came.runs in
    let told = c.in_ok-jobs.ensures {u = tt} in
    let drove = subst (λ (bk : Book). DroveAll name started gives (sight_in bk s) ps ds no_runs q) (c.take_all.ensures.book ∙ c.requires.book) (c.in_ok-came.ensures {u = tt}) in
    let appended : c.append.new.self ≡ with_later c.args.work.now.runs q = rw c.in_ok-append.was at c.append.ensures in
    on_ok_both c.settle_all.result (λ settles runs. (whole name started gives (λ k j. g.R.Rebuilder.begun c.args.rebuilder.now (kept_view c.args.kept.now) b (λ i. None) k j) h b v s f l keys c.take-keys.ensures c.requires.lined c.requires.wanted ps told.jobs told.out ds q drove (spots_of c.settle_all.new.bench) (line_of c.settle_all.new.front) c.args.work.now.runs c.settle_all.new.work.runs c.args.work.now.finished c.settle_all.new.work.finished (runs ∙ appended) settles).lined_now) c.settle_all.ensures.settles c.settle_all.ensures.runs

pub returns-clause-wanted : goal.returns-clause-wanted
returns-clause-wanted g c =
    let b = book_view c.args.book.now in
    let name = g.R.Job.Job.name in
    let started = g.R.Job.Job.started in
    let gives = g.R.Job.Job.gives in
    let h = g.R.Rebuilder.how c.args.rebuilder.now in
    let v = spots_of c.args.bench.now in
    let s = spots_of c.take_all.new.bench in
    let f = line_of c.args.front.now in
    let l = line_of c.take-keys.new.self in
    let keys = c.take-keys.result in
    let ps = c.in_ok-jobs.jobs.items in
    let ds = c.in_ok-came.came.driven.items in
    let q = c.in_ok-came.came.runs in
    let told = c.in_ok-jobs.ensures {u = tt} in
    let drove = subst (λ (bk : Book). DroveAll name started gives (sight_in bk s) ps ds no_runs q) (c.take_all.ensures.book ∙ c.requires.book) (c.in_ok-came.ensures {u = tt}) in
    let appended : c.append.new.self ≡ with_later c.args.work.now.runs q = rw c.in_ok-append.was at c.append.ensures in
    on_ok_both c.settle_all.result (λ settles runs. (whole name started gives (λ k j. g.R.Rebuilder.begun c.args.rebuilder.now (kept_view c.args.kept.now) b (λ i. None) k j) h b v s f l keys c.take-keys.ensures c.requires.lined c.requires.wanted ps told.jobs told.out ds q drove (spots_of c.settle_all.new.bench) (line_of c.settle_all.new.front) c.args.work.now.runs c.settle_all.new.work.runs c.args.work.now.finished c.settle_all.new.work.finished (runs ∙ appended) settles).wanted_now) c.settle_all.ensures.settles c.settle_all.ensures.runs

pub returns-clause-known : goal.returns-clause-known
returns-clause-known g c =
    let b = book_view c.args.book.now in
    let name = g.R.Job.Job.name in
    let started = g.R.Job.Job.started in
    let gives = g.R.Job.Job.gives in
    let h = g.R.Rebuilder.how c.args.rebuilder.now in
    let v = spots_of c.args.bench.now in
    let s = spots_of c.take_all.new.bench in
    let f = line_of c.args.front.now in
    let l = line_of c.take-keys.new.self in
    let keys = c.take-keys.result in
    let ps = c.in_ok-jobs.jobs.items in
    let ds = c.in_ok-came.came.driven.items in
    let q = c.in_ok-came.came.runs in
    let told = c.in_ok-jobs.ensures {u = tt} in
    let drove = subst (λ (bk : Book). DroveAll name started gives (sight_in bk s) ps ds no_runs q) (c.take_all.ensures.book ∙ c.requires.book) (c.in_ok-came.ensures {u = tt}) in
    let appended : c.append.new.self ≡ with_later c.args.work.now.runs q = rw c.in_ok-append.was at c.append.ensures in
    on_ok_both c.settle_all.result (λ settles runs. (whole name started gives (λ k j. g.R.Rebuilder.begun c.args.rebuilder.now (kept_view c.args.kept.now) b (λ i. None) k j) h b v s f l keys c.take-keys.ensures c.requires.lined c.requires.wanted ps told.jobs told.out ds q drove (spots_of c.settle_all.new.bench) (line_of c.settle_all.new.front) c.args.work.now.runs c.settle_all.new.work.runs c.args.work.now.finished c.settle_all.new.work.finished (runs ∙ appended) settles).known) c.settle_all.ensures.settles c.settle_all.ensures.runs

pub returns-clause-wave : goal.returns-clause-wave
returns-clause-wave g c =
    let b = book_view c.args.book.now in
    let name = g.R.Job.Job.name in
    let started = g.R.Job.Job.started in
    let gives = g.R.Job.Job.gives in
    let h = g.R.Rebuilder.how c.args.rebuilder.now in
    let v = spots_of c.args.bench.now in
    let s = spots_of c.take_all.new.bench in
    let f = line_of c.args.front.now in
    let l = line_of c.take-keys.new.self in
    let keys = c.take-keys.result in
    let ps = c.in_ok-jobs.jobs.items in
    let ds = c.in_ok-came.came.driven.items in
    let q = c.in_ok-came.came.runs in
    let told = c.in_ok-jobs.ensures {u = tt} in
    let drove = subst (λ (bk : Book). DroveAll name started gives (sight_in bk s) ps ds no_runs q) (c.take_all.ensures.book ∙ c.requires.book) (c.in_ok-came.ensures {u = tt}) in
    let appended : c.append.new.self ≡ with_later c.args.work.now.runs q = rw c.in_ok-append.was at c.append.ensures in
    on_ok_both c.settle_all.result (λ settles runs. (whole name started gives (λ k j. g.R.Rebuilder.begun c.args.rebuilder.now (kept_view c.args.kept.now) b (λ i. None) k j) h b v s f l keys c.take-keys.ensures c.requires.lined c.requires.wanted ps told.jobs told.out ds q drove (spots_of c.settle_all.new.bench) (line_of c.settle_all.new.front) c.args.work.now.runs c.settle_all.new.work.runs c.args.work.now.finished c.settle_all.new.work.finished (runs ∙ appended) settles).wave) c.settle_all.ensures.settles c.settle_all.ensures.runs

pub returns-clause-fewer : goal.returns-clause-fewer
returns-clause-fewer g c =
    let b = book_view c.args.book.now in
    let name = g.R.Job.Job.name in
    let started = g.R.Job.Job.started in
    let gives = g.R.Job.Job.gives in
    let h = g.R.Rebuilder.how c.args.rebuilder.now in
    let v = spots_of c.args.bench.now in
    let s = spots_of c.take_all.new.bench in
    let f = line_of c.args.front.now in
    let l = line_of c.take-keys.new.self in
    let keys = c.take-keys.result in
    let ps = c.in_ok-jobs.jobs.items in
    let ds = c.in_ok-came.came.driven.items in
    let q = c.in_ok-came.came.runs in
    let told = c.in_ok-jobs.ensures {u = tt} in
    let drove = subst (λ (bk : Book). DroveAll name started gives (sight_in bk s) ps ds no_runs q) (c.take_all.ensures.book ∙ c.requires.book) (c.in_ok-came.ensures {u = tt}) in
    let appended : c.append.new.self ≡ with_later c.args.work.now.runs q = rw c.in_ok-append.was at c.append.ensures in
    on_ok_both c.settle_all.result (λ settles runs some. waves_fewer b v (spots_of c.settle_all.new.bench) (line_of c.settle_all.new.front) c.args.front.now.ready.keys c.settle_all.new.front.ready (λ k is. is) (whole name started gives (λ k j. g.R.Rebuilder.begun c.args.rebuilder.now (kept_view c.args.kept.now) b (λ i. None) k j) h b v s f l keys c.take-keys.ensures c.requires.lined c.requires.wanted ps told.jobs told.out ds q drove (spots_of c.settle_all.new.bench) (line_of c.settle_all.new.front) c.args.work.now.runs c.settle_all.new.work.runs c.args.work.now.finished c.settle_all.new.work.finished (runs ∙ appended) settles).fewer some) c.settle_all.ensures.settles c.settle_all.ensures.runs
