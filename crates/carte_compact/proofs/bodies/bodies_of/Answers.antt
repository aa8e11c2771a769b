use Rattle.std.proofs.Common.{◌<◌, [], ◌∷◌, length, take, ◌∙◌, ap, arith, rules, length-append}
use Rattle.carte_record.proofs.Links.{item_more}
use Rattle.carte_compact.proofs.Shut.{bodies_more, short_more, unmarked_at}
use Rattle.carte_compact.proofs.bodies.bodies_of.Goals as goal

pub body_of-requires : goal.body_of-requires
body_of-requires c =
    let below : c.loop-batch.batch-index < length c.args.batches.now = search rules in
    unmarked_at c.args.batches.now c.loop-batch.batch-index c.batch-item.result c.requires.unmarked below c.batch-item.is

pub loop-batch-preserved : goal.loop-batch-preserved
loop-batch-preserved c =
    let Bs = c.args.batches.now in
    let at = c.loop-batch.batch-index in
    let B = c.batch-item.result in
    let body = c.in_ok-body_of.field-0 in
    let before = c.loop-batch.invariant in
    let below : at < length Bs = search rules in
    let more = item_more Bs at B below c.batch-item.is in
    let pushed = (c.in_ok-push.ensures {u = tt}).ok in
    let made = c.in_ok-body_of.ensures {u = tt} in
    record {
      many = ap length pushed ∙ length-append c.loop-batch.bodies (body ∷ []) ∙ omega (arith, before.many);
      bodies = rw (more, pushed) (bodies_more (take at Bs) c.loop-batch.bodies B body before.bodies made.body);
      short = rw pushed (short_more c.loop-batch.bodies body before.short made.short);
    }
