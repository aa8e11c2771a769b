use Rattle.std.proofs.Common.{refl, ◌∙◌}
use Rattle.carte_bench.specs.Held.{spots_of}
use Rattle.carte_wave.proofs.Taken.{taking_all, taken_next, taken_out, gathers_all, no_keys}
use Rattle.carte_wave.proofs.waves.take_all.Goals as goal

pub keys-init : goal.keys-init
keys-init g c = record {
  taking = taking_all (spots_of c.args.bench.now) c.args.keys.keys (spots_of c.args.bench.now) (λ q. refl) c.requires.once;
  gathers = λ ps jobs. rw c.new-jobs.ensures.items jobs;
  book = refl;
}

pub keys-preserved : goal.keys-preserved
keys-preserved g c =
    let before = c.keys.invariant in
    let next = taken_next (spots_of c.args.bench.now) c.args.keys.keys c.requires.ready (spots_of c.keys.bench) (spots_of c.take_one.new.bench) c.in-Some.key c.pop_first.new.self.keys c.keys.keys.keys c.keys.jobs.items c.take_one.new.jobs.items (c.in-Some.ensures {u = tt}).removal before.taking before.gathers (c.in_ok-take_one.ensures {u = tt}).takes in
    record {
      taking = next.0;
      gathers = next.1;
      book = c.take_one.ensures.book ∙ before.book;
    }

pub keys-preserved-in_ok-take_one : goal.keys-preserved-in_ok-take_one
keys-preserved-in_ok-take_one g c =
    let before = c.keys.invariant in
    let next = taken_next (spots_of c.args.bench.now) c.args.keys.keys c.requires.ready (spots_of c.keys.bench) (spots_of c.take_one.new.bench) c.in-Some.key c.pop_first.new.self.keys c.keys.keys.keys c.keys.jobs.items c.take_one.new.jobs.items (c.in-Some.ensures {u = tt}).removal before.taking before.gathers (c.in_ok-take_one.ensures {u = tt}).takes in
    record {
      taking = next.0;
      gathers = next.1;
      book = c.take_one.ensures.book ∙ before.book;
    }

pub returns-clause-jobs : goal.returns-clause-jobs
returns-clause-jobs g c =
    let none = no_keys c.keys.keys.keys (λ some. let is = (c.in_default.ensures {u = tt}).variant.1 some in cc) in
    gathers_all (spots_of c.args.bench.now) c.args.keys.keys c.keys.keys.keys c.keys.jobs.items none c.keys.invariant.gathers

pub returns-clause-out : goal.returns-clause-out
returns-clause-out g c =
    let none = no_keys c.keys.keys.keys (λ some. let is = (c.in_default.ensures {u = tt}).variant.1 some in cc) in
    taken_out (spots_of c.args.bench.now) c.args.keys.keys (spots_of c.keys.bench) c.keys.keys.keys none c.keys.invariant.taking
