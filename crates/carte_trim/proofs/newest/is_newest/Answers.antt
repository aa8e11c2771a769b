use Rattle.std.proofs.Common.{◌≡◌, length, ap, arith, subst}
use Rattle.carte_table.proofs.Names.{name_eq_self}
use Rattle.carte_table.specs.Lookups.{has_key}
use Rattle.carte_table.specs.Places.{places}
use Rattle.carte_trim.proofs.Ranks.{by_place, few_behind}
use Rattle.carte_trim.proofs.newest.is_newest.Goals as goal

pub returns-then-number-count : goal.returns-then-number-count
returns-then-number-count g c =
    let of = g.T.Keyed.key_of in
    let key = of c.args.trace.now in
    let there = subst (λ k. c.places-places.result.now ≡ places (has_key of k) c.args.traces.now) c.key-key.ensures c.places-places.ensures in
    few_behind (has_key of key) c.args.traces.now c.args.at c.args.trace.now c.args.count c.requires.there c.requires.is (name_eq_self key)
    (omega (arith, c.if-number-count.true, ap length there))

pub returns : goal.returns
returns g c =
    let of = g.T.Keyed.key_of in
    let key = of c.args.trace.now in
    let there = subst (λ k. c.places-places.result.now ≡ places (has_key of k) c.args.traces.now) c.key-key.ensures c.places-places.ensures in
    rw there
    (by_place (has_key of key) c.args.traces.now c.args.at c.args.trace.now c.args.count c.requires.there c.requires.is (name_eq_self key)
    (omega (arith, c.if-number-count.false, ap length there)) (omega (arith, c.if-count-eq0.false)))
