use Rattle.std.proofs.Common.{◌≤◌, length, Ok, Err, rules}
use Rattle.std.proofs.lemmas.Result.{err_from_is_err_and}
use Rattle.carte_rules.proofs.Turns.{rules_end}
use Rattle.carte_rules.proofs.EntryTurns.{no_more, rules_more, rules_stop}
use Rattle.carte_rules.proofs.entries.put_rules.Goals as goal

pub loop-entry-init : goal.loop-entry-init
loop-entry-init c = λ m h. (m, h, λ o r. r)

pub loop-entry-preserved : goal.loop-entry-preserved
loop-entry-preserved c =
    let es = c.args.entries.now in
    let at = c.loop-entry.entry-index in
    let below = c.loop-entry-test.true in
    λ m h.
    let i = c.loop-entry.invariant m h in
    let p = c.in_ok-put_rule.ensures i.0 i.1 in
    (_, p.2, λ o r. i.2 o (rules_more es at _ below i.0 p.0 o p.1 r))

pub returns : goal.returns
returns c = λ m h.
    let i = c.loop-entry.invariant m h in
    let es = c.args.entries.now in
    let at = c.loop-entry.entry-index in
    let past : length es ≤ at = search rules in
    (i.0, i.2 (Ok i.0) (rules_end _ i.0 (no_more es at past)), i.1)

pub returns-in_err-put_rule : goal.returns-in_err-put_rule
returns-in_err-put_rule c =
    let es = c.args.entries.now in
    let at = c.loop-entry.entry-index in
    let below = c.loop-entry-test.true in
    let p = err_from_is_err_and c.from_residual.result c.from_residual.ensures.1 in
    rw (p.1, p.2) (λ m h cause.
    let i = c.loop-entry.invariant m h in
    i.2 (Err c.in_err-put_rule.field-0.0) (rules_stop es at _ below i.0 c.in_err-put_rule.field-0.0 (c.in_err-put_rule.ensures i.0 i.1 cause)))
