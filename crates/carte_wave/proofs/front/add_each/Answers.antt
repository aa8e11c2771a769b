use Rattle.std.proofs.Common.{◌≡◌, ℕ, cond, true, List, sym, subst}
use Rattle.std.specs.BTreeSet.{contains}
use Rattle.std.specs.Ordering.{eq_by_cmp}
use Rattle.carte_name.specs.Names.{name_cmp}
use Rattle.carte_progress.proofs.Whys.{one_more}
use Rattle.carte_wave.specs.Front.{AddsEach}
use Rattle.carte_wave.proofs.Sets.{adds_end}
use Rattle.carte_wave.proofs.front.add_each.Goals as goal

pub loop-key-preserved : goal.loop-key-preserved
loop-key-preserved c =
    let ks = c.args.keys.now in
    let at = c.loop-key.key-index in
    let k = c.key-item.result in
    let put = (c.in_ok-insert.ensures {u = tt}).updates.0 in
    let here = subst (λ j. (q : List ℕ) → contains name_cmp c.insert.new.self q ≡ cond (eq_by_cmp name_cmp j q) true (contains name_cmp c.loop-key.ready q)) c.in_ok-copy.ensures put in
    subst (λ l. AddsEach l c.args.ready.now c.insert.new.self) (sym (one_more ks at k c.loop-key-test.true c.key-item.is))
    (adds_end _ k c.args.ready.now c.loop-key.ready c.insert.new.self c.loop-key.invariant here)
