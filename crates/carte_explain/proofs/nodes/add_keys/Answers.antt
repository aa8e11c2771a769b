use Rattle.std.proofs.Common.{◌≤◌, length, subst, rules}
use Rattle.std.specs.Cmp.{eq_by_cmp_equiv}
use Rattle.std.proofs.lemmas.Cmp.{nat_list_cmp_total}
use Rattle.carte_table.proofs.Fronts.{take_whole}
use Rattle.carte_explain.specs.Nodes.{AddsAll, keys_in}
use Rattle.carte_explain.proofs.Noding.{adds_next, adds_none}
use Rattle.carte_explain.proofs.nodes.add_keys.Goals as goal

pub loop-entry-init : goal.loop-entry-init
loop-entry-init c = adds_none c.args.nodes.now

pub loop-entry-preserved : goal.loop-entry-preserved
loop-entry-preserved c =
    adds_next (λ x. x.key) c.args.nodes.now c.loop-entry.nodes c.add.new.nodes c.args.entries.now c.loop-entry.entry-index c.entry-item.result
    ((eq_by_cmp_equiv nat_list_cmp_total).refl c.entry-item.result.key) c.loop-entry-test.true c.entry-item.is c.loop-entry.invariant (c.in_ok-add.ensures {u = tt})

pub returns : goal.returns
returns c =
    let past : length c.args.entries.now ≤ c.loop-entry.entry-index = search rules in
    subst (λ xs. AddsAll c.args.nodes.now c.loop-entry.nodes (keys_in xs)) (take_whole c.loop-entry.entry-index c.args.entries.now past) c.loop-entry.invariant
