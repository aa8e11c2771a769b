use Rattle.std.proofs.Common.{◌≡◌, [], rules}
use Rattle.std.specs.Map.Iter.{deref_pair}
use Rattle.std.proofs.lemmas.Map.Iter.{rest_more, rest_all, hash_map_turn}
use Rattle.std.specs.Cmp.Lexicographic.{nat_list_eq_equiv}
use Rattle.carte_book.proofs.RuleNames.{at_first, one_more, at_last}
use Rattle.carte_book.proofs.book.Book.rule_names.Goals as goal

pub loop-name-init : goal.loop-name-init
loop-name-init c =
    let none : c.new-names.result.keys ≡ [] = search rules in
    rw c.into_iter-name-iterator.ensures.into_iter_gives.0 (at_first c.args.self.now.items c.new-names.result none)

pub loop-name-preserved : goal.loop-name-preserved
loop-name-preserved c =
    let steps = c.next.ensures.steps in
    let turn = hash_map_turn deref_pair c.loop-name.yielded c.into_iter-name-iterator.result c.loop-name.name-iterator c.next.new.self c.next.result (c.in-Some.name, c.in-Some.item) c.loop-name.yielded_by c.in-Some.is steps nat_list_eq_equiv c.args.self.now.items c.into_iter-name-iterator.ensures.into_iter_gives.0 c.into_iter-name-iterator.ensures.into_iter_gives.4 in
    one_more c.args.self.now.items c.loop-name.names c.add_rule.new.names c.loop-name.name-iterator c.next.new.self c.in-Some.name.now c.in-Some.item.now (rest_more deref_pair c.loop-name.name-iterator c.next.new.self c.next.result (c.in-Some.name, c.in-Some.item) c.in-Some.is steps) turn.1 c.in_default.ensures c.loop-name.invariant

pub returns : goal.returns
returns c = at_last c.args.self.now c.loop-name.names (rw (rest_all deref_pair c.loop-name.name-iterator c.next.new.self c.next.result c.in-None.is c.next.ensures.steps) at c.loop-name.invariant)
