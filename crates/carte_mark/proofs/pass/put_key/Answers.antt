use Rattle.std.proofs.Common.{◌≡◌, true, false, sym, ◌∙◌}
use Rattle.carte_record.specs.Kept.{kept_view}
use Rattle.carte_table.proofs.Steps.{begins_self}
use Rattle.carte_mark.specs.Reached.{IsUser}
use Rattle.carte_mark.proofs.Spreading.{puts_key, closed_put, puts_none, closed_not}
use Rattle.carte_mark.proofs.pass.put_key.Goals as goal

pub returns-then-needs_one : goal.returns-then-needs_one
returns-then-needs_one c =
    let K = kept_view c.args.kept.now in
    let old = c.args.names.now in
    let new = c.put.new.names in
    let is = (c.in_ok-put.ensures {u = tt}).put in
    record { front = (c.in_ok-put.ensures {u = tt}).front; puts = puts_key K old new c.args.key.now (c.needs_one.ensures.0 c.if-needs_one.true) is; closed = closed_put K old new c.args.key.now is }

pub returns : goal.returns
returns c =
    let K = kept_view c.args.kept.now in
    let names = c.args.names.now in
    let other : ¬ (IsUser K names c.args.key.now) = λ user. let e : false ≡ true = sym c.if-needs_one.false ∙ c.needs_one.ensures.1 user in cc in
    record { front = begins_self names; puts = puts_none K names; closed = closed_not K names c.args.key.now other }
