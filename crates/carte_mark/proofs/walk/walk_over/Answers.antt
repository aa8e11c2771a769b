use Rattle.std.proofs.Common.{◌<◌, ◌≤◌, length, rules, arith}
use Rattle.carte_mark.specs.Tables.{users_by}
use Rattle.carte_mark.proofs.Putting.{get_there}
use Rattle.carte_mark.proofs.Reaching.{reaching_first, reaching_next, reached_all, reached_few}
use Rattle.carte_mark.proofs.walk.walk_over.Goals as goal

pub loop-next-init : goal.loop-next-init
loop-next-init c = reaching_first c.args.kept.now (users_by c.args.users.now) c.args.names

pub loop-next-smaller : goal.loop-next-smaller
loop-next-smaller c =
    let d = users_by c.args.users.now in
    let few = reached_few c.args.kept.now d c.args.names c.loop-next.reached c.loop-next.next c.as_slice.ensures.once c.loop-next.invariant in
    let below : c.loop-next.next < length c.loop-next.reached = search rules in
    omega arith

pub loop-next-preserved : goal.loop-next-preserved
loop-next-preserved c =
    let K = c.args.kept.now in
    let d = users_by c.args.users.now in
    let rs = c.loop-next.reached in
    let below : c.loop-next.next < length rs = search rules in
    let there = get_there rs c.loop-next.next below in
    reaching_next K d c.args.names rs c.put_users_at.new.reached c.loop-next.next there.0 below there.1 c.loop-next.invariant ((c.in_ok-put_users_at.ensures {u = tt}) there.0 there.1)

pub returns : goal.returns
returns c users =
    let d = users_by c.args.users.now in
    let past : length c.loop-next.reached ≤ c.loop-next.next = search rules in
    reached_all c.args.kept.now d c.args.names c.loop-next.reached c.loop-next.next users past c.loop-next.invariant
