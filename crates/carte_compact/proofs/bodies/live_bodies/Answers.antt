use Rattle.std.proofs.Common.{◌∙◌, length, ap, subst, arith}
use Rattle.std.proofs.lemmas.Result.{IfOk-weaker}
use Rattle.carte_state.specs.Folding.{Makes}
use Rattle.carte_state.specs.Versions.{InTwo}
use Rattle.carte_compact.proofs.Alike.{one_live}
use Rattle.carte_compact.proofs.Shut.{are_few, as_long, makes}
use Rattle.carte_compact.specs.Lengths.{AreBodies, region_length}
use Rattle.carte_compact.proofs.bodies.live_bodies.Goals as goal

pub bodies_of-requires-clause-few : goal.bodies_of-requires-clause-few
bodies_of-requires-clause-few c =
    let few = are_few c.args.kept.now c.in_ok-batches.batches.items ((c.in_ok-batches.ensures {u = tt}).live) in
    omega (arith, few, ap length c.as_slice.ensures.value)

pub returns-clause-live : goal.returns-clause-live
returns-clause-live c =
    let Bs = c.in_ok-batches.batches.items in
    IfOk-weaker c.bodies_of.result _ _ (λ bodies are. (Bs, (c.in_ok-batches.ensures {u = tt}).live, subst (λ Cs. AreBodies Cs bodies) c.as_slice.ensures.value are)) c.bodies_of.ensures.bodies

pub returns-clause-kept : goal.returns-clause-kept
returns-clause-kept c =
    let Bs = c.in_ok-batches.batches.items in
    IfOk-weaker c.bodies_of.result _ _
    (λ bodies are. subst (λ K. Makes bodies (InTwo K)) ((c.in_ok-batches.ensures {u = tt}).kept) (makes Bs bodies (subst (λ Cs. AreBodies Cs bodies) c.as_slice.ensures.value are)))
    c.bodies_of.ensures.bodies

pub returns-clause-length : goal.returns-clause-length
returns-clause-length c =
    let Cs = c.in_ok-batches.batches.items in
    IfOk-weaker c.bodies_of.result _ _
    (λ bodies are Bs live. as_long Cs bodies (subst (λ Ds. AreBodies Ds bodies) c.as_slice.ensures.value are) ∙ ap region_length (one_live c.args.kept.now Cs Bs (c.in_ok-batches.ensures {u = tt}).live live)) c.bodies_of.ensures.bodies
