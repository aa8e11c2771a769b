use Rattle.std.proofs.Common.{refl}
use Rattle.indexmap.specs.IndexMap.{with_value_at}
use Rattle.std.specs.HashMap.{get}
use Rattle.carte_name.specs.Names.{name_eq}
use Rattle.carte_bench.specs.Held.{spots_of, book_of}
use Rattle.carte_bench.proofs.Ruled.{rules_over}
use Rattle.carte_bench.proofs.Slots.{within_at, stood_at, put_as, still_at}
use Rattle.carte_bench.proofs.bench.Bench.swap.Goals as goal

pub invariant_of-self : goal.invariant_of-self
invariant_of-self g c = let e = c.pair_mut-stands.ensures in let put = put_as c.args.self.now.slots c.args.name.now _ c.args.at _ c.replace.new.dest e.unique c.requires.place e.value c.replace.new.dest refl in record { rules = rules_over (book_of c.args.self.now) (spots_of c.args.self.now) (get name_eq (with_value_at c.args.self.now.slots c.args.at c.replace.new.dest)) c.args.name.now c.replace.new.dest c.args.self.now.rules c.requires.known put }

pub pair_mut-stands-requires : goal.pair_mut-stands-requires
pair_mut-stands-requires g c = within_at c.args.self.now.slots.entries c.args.name.now c.args.at (spots_of c.args.self.now c.args.name.now) c.requires.known c.requires.place

pub returns-clause-put : goal.returns-clause-put
returns-clause-put g c = let e = c.pair_mut-stands.ensures in put_as c.args.self.now.slots c.args.name.now _ c.args.at _ c.replace.new.dest e.unique c.requires.place e.value c.args.slot c.replace.ensures.after

pub returns-clause-place : goal.returns-clause-place
returns-clause-place g c = let e = c.pair_mut-stands.ensures in still_at c.args.self.now.slots c.args.name.now _ c.args.at _ c.replace.new.dest e.unique c.requires.place e.value

pub returns-clause-stood : goal.returns-clause-stood
returns-clause-stood g c = let e = c.pair_mut-stands.ensures in stood_at c.args.self.now.slots c.args.name.now _ c.args.at _ c.replace.new.dest e.unique c.requires.place e.value c.replace.result c.replace.ensures.value
