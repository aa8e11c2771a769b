use Rattle.std.proofs.Common.{◌≡◌, true, false, refl, sym, ◌∙◌}
use Rattle.carte_book.specs.Book.{book_view}
use Rattle.carte_bench.specs.Held.{spots_of}
use Rattle.carte_wave.specs.Front.{line_of}
use Rattle.carte_wave.specs.Waves.{ended, next}
use Rattle.carte_wave.proofs.Ended.{none_in, none_ready, standing}
use Rattle.carte_wave.proofs.Taken.{no_keys}
use Rattle.carte_wave.proofs.building.wave_on.Goals as goal

pub waves-init : goal.waves-init
waves-init g c = record {
  book = c.requires.book;
  lined = c.requires.lined;
  wanted = c.requires.wanted;
  went = λ e rest. rest;
  known = λ q x is. (x, is);
  chain = refl;
}

pub waves-preserved : goal.waves-preserved
waves-preserved g c =
    let ok = c.in_ok-wave.ensures {u = tt} in
    let before = c.waves.invariant in
    record {
      book = ok.book;
      lined = ok.lined;
      wanted = ok.wanted;
      went = λ e rest. before.went e (next ok.wave rest);
      known = λ q x is. (let one = before.known q x is in ok.known q one.0 one.1);
      chain = ok.chain ∙ before.chain;
    }

pub returns-clause-standing : goal.returns-clause-standing
returns-clause-standing g c =
    let none = no_keys c.waves.front.ready.keys (λ some. let both : false ≡ true = sym c.waves-test.false ∙ c.goes_on.ensures.1 some in cc) in
    standing g.R.Job.Job.name (book_view c.args.book.now) (spots_of c.waves.bench) (line_of c.waves.front) c.waves.invariant.lined (none_in c.waves.front.ready none) c.waves.invariant.wanted

pub returns-clause-waves : goal.returns-clause-waves
returns-clause-waves g c =
    let none = no_keys c.waves.front.ready.keys (λ some. let both : false ≡ true = sym c.waves-test.false ∙ c.goes_on.ensures.1 some in cc) in
    c.waves.invariant.went _ (ended (none_ready g.R.Job.Job.name (book_view c.args.book.now) (spots_of c.waves.bench) (line_of c.waves.front) c.waves.invariant.lined (none_in c.waves.front.ready none)))
