use Rattle.std.proofs.Common.{◌∙◌, ◌≤◌, length, refl, rules}
use Rattle.std.specs.FinMap.{empty}
use Rattle.carte_rules.specs.Entries.{keys_of}
use Rattle.carte_rules.proofs.Fresh.{keys_fresh}
use Rattle.carte_rules.proofs.Turns.{inputs_end}
use Rattle.carte_rules.proofs.EntryTurns.{no_more, inputs_more}
use Rattle.carte_rules.proofs.entries.put_inputs.Goals as goal

pub loop-entry-init : goal.loop-entry-init
loop-entry-init c = (empty, refl, c.requires.empty, keys_fresh (keys_of c.args.entries.now) c.requires.sorted)

pub loop-entry-preserved : goal.loop-entry-preserved
loop-entry-preserved c =
    let i = c.loop-entry.invariant in
    let es = c.args.entries.now in
    let at = c.loop-entry.entry-index in
    let below = c.loop-entry-test.true in
    let p = c.in_ok-put_input.ensures i.0 i.2 in
    let more = inputs_more es at _ below i.0 p.0 i.3 p.2 in
    (p.0, i.1 ∙ more.0, p.3, more.1)

pub returns : goal.returns
returns c =
    let i = c.loop-entry.invariant in
    let es = c.args.entries.now in
    let at = c.loop-entry.entry-index in
    let past : length es ≤ at = search rules in
    (i.0, i.1 ∙ inputs_end _ i.0 (no_more es at past), i.2)
