use Rattle.std.proofs.Common.{◌+◌, ◌∙◌, Err, ap, drop, length, map-id, refl, subst, sym}
use Rattle.std.proofs.lemmas.Iterator.Adapters.{YieldsList-from_vec}
use Rattle.std.proofs.lemmas.Iterator.Consumers.{YieldsList-end, YieldsList-so_far, YieldsList-turn}
use Rattle.std.proofs.lemmas.Result.{err_from_is_err_and}
use Rattle.carte_state.specs.Folding.{IsFolded}
use Rattle.carte_state.specs.Parts.{ReadsPart, ReadsTo, bodies_in, made_view}
use Rattle.carte_state.specs.Versions.{Fresh}
use Rattle.carte_state.proofs.Reading.{AreParts, pairs_none, part_fails, part_more, parts_are}
use Rattle.carte_state.proofs.Runs.{cut_behind}
use Rattle.carte_state.proofs.load.put_together.Goals as goal

pub loop-part-init : goal.loop-part-init
loop-part-init c ps are = subst (λ qs. IsFolded Fresh (bodies_in qs) Fresh) (sym (pairs_none ReadsPart ps are)) refl

pub loop-part-preserved : goal.loop-part-preserved
loop-part-preserved c =
    part_more Fresh (made_view c.loop-part.made) (made_view c.take_part.new.made) c.loop-part.yielded c.in-Some.part c.loop-part.invariant
    (λ x reads. subst (ReadsTo (λ _. made_view c.take_part.new.made) (made_view c.loop-part.made) x.bodies.items) c.in_ok-take_part.was (c.take_part.ensures x reads))

-- the bodies of all parts make this
pub returns : goal.returns
returns c ps same each =
    let all = c.args.parts.items in
    let done = c.loop-part.yielded in
    let gives = c.into_iter-part-iterator.ensures.into_iter_gives in
    let road = YieldsList-from_vec {s = c.into_iter-part-iterator.result} all gives.0 (gives.1 ∙ c.args.parts.ok.0) in
    let end = YieldsList-end road done c.loop-part.part-iterator c.loop-part.yielded_by c.next.result c.next.new.self c.in-None.is c.next.ensures.steps in
    c.loop-part.invariant ps (subst (AreParts ps) (sym end.0 ∙ map-id done) (parts_are ps all same each))

pub returns-in_err-take_part : goal.returns-in_err-take_part
returns-in_err-take_part c ps same each =
    let p = err_from_is_err_and c.from_residual.result c.from_residual.ensures.1 in
    let all = c.args.parts.items in
    let done = c.loop-part.yielded in
    let gives = c.into_iter-part-iterator.ensures.into_iter_gives in
    let road = YieldsList-from_vec {s = c.into_iter-part-iterator.result} all gives.0 (gives.1 ∙ c.args.parts.ok.0) in
    let turn = YieldsList-turn road done c.loop-part.part-iterator c.loop-part.yielded_by c.next.result c.next.new.self c.in-Some.part c.in-Some.is c.next.ensures.steps in
    let cut = cut_behind all done c.in-Some.part (YieldsList-so_far road done c.loop-part.part-iterator c.loop-part.yielded_by) turn in
    rw (p.1 ∙ ap Err p.2)
    (part_fails {A = Unit {0}} (λ _. made_view c.take_part.new.made) made_view Fresh (made_view c.loop-part.made) all done (drop (length done + 1) all) c.in-Some.part cut c.loop-part.invariant c.in_err-take_part.field-0.0
    (λ x reads. subst (ReadsTo (λ _. made_view c.take_part.new.made) (made_view c.loop-part.made) x.bodies.items) c.in_err-take_part.was (c.take_part.ensures x reads))
    ps (parts_are ps all same each))
