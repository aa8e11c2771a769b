use Rattle.std.proofs.Common.{◌≤◌, length, subst, rules}
use Rattle.std.specs.Cmp.{eq_by_cmp_equiv}
use Rattle.std.proofs.lemmas.Cmp.{nat_list_cmp_total}
use Rattle.carte_table.proofs.Fronts.{take_whole}
use Rattle.carte_explain.specs.Nodes.{AddsAll, names_in}
use Rattle.carte_explain.proofs.Noding.{adds_next, adds_none}
use Rattle.carte_explain.proofs.nodes.add_names.Goals as goal

pub loop-link-init : goal.loop-link-init
loop-link-init c = adds_none c.args.nodes.now

pub loop-link-preserved : goal.loop-link-preserved
loop-link-preserved c =
    adds_next (λ x. x.name) c.args.nodes.now c.loop-link.nodes c.add.new.nodes c.args.links.now c.loop-link.link-index c.link-item.result
    ((eq_by_cmp_equiv nat_list_cmp_total).refl c.link-item.result.name) c.loop-link-test.true c.link-item.is c.loop-link.invariant (c.in_ok-add.ensures {u = tt})

pub returns : goal.returns
returns c =
    let past : length c.args.links.now ≤ c.loop-link.link-index = search rules in
    subst (λ xs. AddsAll c.args.nodes.now c.loop-link.nodes (names_in xs)) (take_whole c.loop-link.link-index c.args.links.now past) c.loop-link.invariant
