use Rattle.std.proofs.Common.{List, ◌∙◌, ap, subst}
use Rattle.carte_journal.specs.Regions.{needs_with}
use Rattle.carte_record.specs.declared.batch.Batch.{Batch}
use Rattle.carte_record.specs.declared.kept.Kept.{Kept}
use Rattle.carte_compact.specs.Live.{IsLive}
use Rattle.carte_compact.proofs.Rewritten.{if_all, region_long, short_bytes}
use Rattle.carte_compact.proofs.rewriting.live_region.Goals as goal

pub plan-requires : goal.plan-requires
plan-requires c = short_bytes c.in_ok-bodies.bodies (c.in_ok-bodies.ensures {u = tt}).short

pub returns : goal.returns
returns c =
    let bodies = c.in_ok-bodies.bodies in
    let made = c.in_ok-bodies.ensures {u = tt} in
    let Bs : List Batch = made.live.0 in
    let long = region_long bodies ∙ made.length Bs made.live.1 in
    if_all c.plan.result _ _ _ _
    (λ p planned region needs. record {
      batches = Bs;
      bodies = bodies;
      live = subst (λ (K : Kept). IsLive K Bs) c.kept.ensures made.live.1;
      are = made.live.2;
      region = region;
      planned = planned;
      needs = needs ∙ ap (needs_with c.args.state.now.journal) long;
    })
    c.plan.ensures.planned c.plan.ensures.region c.plan.ensures.needs
