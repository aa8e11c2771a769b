use Rattle.std.proofs.Common.{◌<◌, ◌≤◌, length, take, ap, sym, ◌∙◌, rules, arith}
use Rattle.carte_note.specs.Right.{keys_in}
use Rattle.carte_sound.specs.LeadsTo.{chain_behind}
use Rattle.carte_progress.proofs.Whys.{one_more}
use Rattle.carte_table.proofs.Fronts.{take_whole}
use Rattle.carte_restart.specs.Chained.{with_other}
use Rattle.carte_restart.proofs.Chaining.{none_behind, other_more}
use Rattle.carte_restart.proofs.chains.chain_of.Goals as goal

pub loop-at-init : goal.loop-at-init
loop-at-init c = (c.in_ok-chain.ensures {u = tt}) ∙ none_behind (keys_in c.args.finished.now)

pub loop-at-preserved : goal.loop-at-preserved
loop-at-preserved c =
    let ks = keys_in c.args.finished.now in
    let names = c.as_slice-names.result.now in
    let at = c.loop-at.at in
    let below : at < length names = omega arith in
    (c.in_ok-add_other.ensures {u = tt})
    ∙ (ap (λ chain. with_other c.args.finished.now chain c.index-names-at.result) c.loop-at.invariant
    ∙ (sym (other_more ks (take at names) c.index-names-at.result)
    ∙ ap (chain_behind ks) (sym (one_more names at c.index-names-at.result below c.index-names-at.is))))

pub returns : goal.returns
returns c =
    let names = c.as_slice-names.result.now in
    let past : length names ≤ c.loop-at.at = search rules in
    c.loop-at.invariant ∙ ap (chain_behind (keys_in c.args.finished.now)) (take_whole c.loop-at.at names past ∙ c.as_slice-names.ensures)
