use Rattle.std.proofs.Common.{◌≤◌, ◌<◌, length, map, set, vec_items, sym, subst, arith}
use Rattle.carte_value.specs.Lists.{Begins}
use Rattle.carte_table.proofs.Steps.{begins_on}
use Rattle.carte_mark.specs.Tables.{AddsKey, AreWithin, Fills, Numbered, users_by}
use Rattle.carte_mark.proofs.ByNumber.{adds_number, begins_seen, get_below, get_begun, many, put_more, put_same, within_more, within_same}
use Rattle.carte_mark.proofs.Reaching.{none_twice}
use Rattle.carte_mark.proofs.users.Users.add.Goals as goal

pub invariant_of-self-in_err-push : goal.invariant_of-self-in_err-push
invariant_of-self-in_err-push c =
    let t : Numbered = record { names = c.self.inside.names; users = map vec_items c.self.inside.users.items } in
    let ks = c.give-2.new.self in
    let xs = c.fill.new.lists.items in
    let first = subst (Begins t.names) (sym (c.in_ok-at.ensures {u = tt}).names) (begins_seen t.names c.args.name.now) in
    let second = subst (Begins c.give.new.self) (sym (c.in_ok-number.ensures {u = tt}).names) (begins_seen c.give.new.self c.args.key.now) in
    let begins = begins_on t.names c.give.new.self ks first second in
    let fills = subst (λ ns. Fills (length ns) t.users (map vec_items xs)) c.as_slice.ensures.names (c.in_ok-fill.ensures {u = tt}).fills in
    let there = get_begun c.give.new.self ks c.in_ok-at.at c.args.name.now second ((c.in_ok-at.ensures {u = tt}).given) in
    let long = subst (λ ns. length ns ≤ length xs) c.as_slice.ensures.names (c.in_ok-fill.ensures {u = tt}).filled in
    let inside = get_below ks c.in_ok-at.at c.args.name.now there in
    let below : c.in_ok-at.at < length xs = omega (arith, long, inside) in
    let is = put_same vec_items xs c.in_ok-at.at c.index_mut.result.now c.push.new.self below c.index_mut.ensures.value ((c.in_err-push.ensures {u = tt}).items) in
    subst (λ us. AreWithin (record { names = ks; users = us })) (sym is) (within_same t ks (map vec_items xs) c.self.invariant begins fills c.in_ok-at.at (subst (λ n. c.in_ok-at.at < n) (sym (many vec_items xs)) below))

both : (c : goal.In_ok-push) → AreWithin (record { names = c.give-2.new.self; users = map vec_items (set c.fill.new.lists.items c.in_ok-at.at c.push.new.self) })
    × AddsKey (users_by (record { names = c.self.inside.names; users = map vec_items c.self.inside.users.items })) (users_by (record { names = c.give-2.new.self; users = map vec_items (set c.fill.new.lists.items c.in_ok-at.at c.push.new.self) })) c.args.name.now c.args.key.now
both c =
    let t : Numbered = record { names = c.self.inside.names; users = map vec_items c.self.inside.users.items } in
    let ks = c.give-2.new.self in
    let xs = c.fill.new.lists.items in
    let first = subst (Begins t.names) (sym (c.in_ok-at.ensures {u = tt}).names) (begins_seen t.names c.args.name.now) in
    let second = subst (Begins c.give.new.self) (sym (c.in_ok-number.ensures {u = tt}).names) (begins_seen c.give.new.self c.args.key.now) in
    let begins = begins_on t.names c.give.new.self ks first second in
    let fills = subst (λ ns. Fills (length ns) t.users (map vec_items xs)) c.as_slice.ensures.names (c.in_ok-fill.ensures {u = tt}).fills in
    let there = get_begun c.give.new.self ks c.in_ok-at.at c.args.name.now second ((c.in_ok-at.ensures {u = tt}).given) in
    let long = subst (λ ns. length ns ≤ length xs) c.as_slice.ensures.names (c.in_ok-fill.ensures {u = tt}).filled in
    let inside = get_below ks c.in_ok-at.at c.args.name.now there in
    let below : c.in_ok-at.at < length xs = omega (arith, long, inside) in
    let is = put_more vec_items xs c.in_ok-at.at c.in_ok-number.number c.index_mut.result.now c.push.new.self below c.index_mut.ensures.value ((c.in_ok-push.ensures {u = tt}).items) in
    let once = none_twice ks c.as_slice.ensures.once in
    let within = subst (λ n. c.in_ok-at.at < n) (sym (many vec_items xs)) below in
    let number = (c.in_ok-number.ensures {u = tt}).given in (
      subst (λ us. AreWithin (record { names = ks; users = us })) (sym is) (within_more t ks (map vec_items xs) c.self.invariant begins fills once c.in_ok-at.at c.in_ok-number.number c.args.name.now c.args.key.now within there number),
      subst (λ us. AddsKey (users_by t) (users_by (record { names = ks; users = us })) c.args.name.now c.args.key.now) (sym is) (adds_number t ks (map vec_items xs) c.self.invariant begins fills once c.in_ok-at.at c.in_ok-number.number c.args.name.now c.args.key.now within there number),
    )

pub invariant_of-self-2 : goal.invariant_of-self-2
invariant_of-self-2 c = (both c).0

pub returns : goal.returns
returns c = subst (λ (t : Numbered). AddsKey (users_by t) (users_by (record { names = c.give-2.new.self; users = map vec_items (set c.fill.new.lists.items c.in_ok-at.at c.push.new.self) })) c.args.name.now c.args.key.now) c.self.view_is (both c).1
