use Rattle.std.proofs.Common.{◌+◌, ◌∙◌, ◌∷◌, [], Err, ap, drop, length, subst, sym}
use Rattle.std.proofs.lemmas.Iterator.Adapters.{YieldsList-from_vec}
use Rattle.std.proofs.lemmas.Iterator.Consumers.{YieldsList-so_far, YieldsList-turn}
use Rattle.std.proofs.lemmas.Result.{err_from_is_err_and}
use Rattle.carte_state.specs.Parts.{ReadsTo, made_view}
use Rattle.carte_state.specs.Versions.{Fresh}
use Rattle.carte_state.proofs.Folds.{folded_both}
use Rattle.carte_state.proofs.Reading.{fails_then}
use Rattle.carte_state.proofs.Runs.{cut_behind}
use Rattle.carte_state.proofs.load.take_each.Goals as goal

pub loop-body-preserved : goal.loop-body-preserved
loop-body-preserved c =
    folded_both Fresh (made_view c.loop-body.made) (made_view c.take_body.new.made) c.loop-body.yielded (c.in-Some.body ∷ []) c.loop-body.invariant
    (subst (ReadsTo (λ _. made_view c.take_body.new.made) (made_view c.loop-body.made) (c.in-Some.body ∷ [])) c.in_ok-take_body.was c.take_body.ensures)

pub returns-in_err-take_body : goal.returns-in_err-take_body
returns-in_err-take_body c =
    let p = err_from_is_err_and c.from_residual.result c.from_residual.ensures.1 in
    let vec_is = c.into_vec-items.ensures in
    let done = c.loop-body.yielded in
    let gives = c.into_iter-body-iterator.ensures.into_iter_gives in
    let road = YieldsList-from_vec {s = c.into_iter-body-iterator.result} c.args.bodies (gives.0 ∙ vec_is) (gives.1 ∙ (c.into_vec-items.result.ok.0 ∙ ap length vec_is)) in
    let turn = YieldsList-turn road done c.loop-body.body-iterator c.loop-body.yielded_by c.next.result c.next.new.self c.in-Some.body c.in-Some.is c.next.ensures.steps in
    let cut = cut_behind c.args.bodies done c.in-Some.body (YieldsList-so_far road done c.loop-body.body-iterator c.loop-body.yielded_by) turn in
    rw (p.1 ∙ ap Err p.2)
    (subst (λ bs. ReadsTo made_view Fresh bs (Err c.in_err-take_body.field-0.0)) (sym cut)
    (fails_then {A = Unit {0}} (λ _. made_view c.take_body.new.made) made_view Fresh (made_view c.loop-body.made) done (c.in-Some.body ∷ []) (drop (length done + 1) c.args.bodies) c.in_err-take_body.field-0.0 c.loop-body.invariant
    (subst (ReadsTo (λ _. made_view c.take_body.new.made) (made_view c.loop-body.made) (c.in-Some.body ∷ [])) c.in_err-take_body.was c.take_body.ensures)))
