use Rattle.std.proofs.Common.{◌+◌, ◌∙◌, ◌∷◌, [], Err, ap, drop, length, refl, subst, sym}
use Rattle.std.proofs.lemmas.Iterator.Adapters.{YieldsList-from_vec}
use Rattle.std.proofs.lemmas.Iterator.Consumers.{YieldsList-so_far, YieldsList-turn}
use Rattle.std.proofs.lemmas.Result.{err_from_is_err_and}
use Rattle.carte_state.specs.Folding.{IsFolded}
use Rattle.carte_state.specs.Parts.{IsFoundIn, ReadsTo, made_view}
use Rattle.carte_state.proofs.Reading.{found_fails, found_more, pairs_none}
use Rattle.carte_state.proofs.Runs.{cut_behind}
use Rattle.carte_state.proofs.made.Made.take_all.Goals as goal

pub loop-found-init : goal.loop-found-init
loop-found-init c bodies are = subst (λ bs. IsFolded (made_view c.args.self.now) bs (made_view c.args.self.now)) (sym (pairs_none IsFoundIn bodies are)) refl

pub loop-found-preserved : goal.loop-found-preserved
loop-found-preserved c =
    found_more (made_view c.args.self.now) (made_view c.loop-found.self) (made_view c.take.new.self) c.loop-found.yielded c.in-Some.found c.loop-found.invariant
    (λ body is. subst (ReadsTo (λ _. made_view c.take.new.self) (made_view c.loop-found.self) (body ∷ [])) c.in_ok-take.was (c.take.ensures body is))

pub returns-in_err-take : goal.returns-in_err-take
returns-in_err-take c bodies are =
    let p = err_from_is_err_and c.from_residual.result c.from_residual.ensures.1 in
    let all = c.args.founds.items in
    let done = c.loop-found.yielded in
    let gives = c.into_iter-found-iterator.ensures.into_iter_gives in
    let road = YieldsList-from_vec {s = c.into_iter-found-iterator.result} all gives.0 (gives.1 ∙ c.args.founds.ok.0) in
    let turn = YieldsList-turn road done c.loop-found.found-iterator c.loop-found.yielded_by c.next.result c.next.new.self c.in-Some.found c.in-Some.is c.next.ensures.steps in
    let cut = cut_behind all done c.in-Some.found (YieldsList-so_far road done c.loop-found.found-iterator c.loop-found.yielded_by) turn in
    rw (p.1 ∙ ap Err p.2)
    (found_fails {A = Unit {0}} {C = Unit {0}} (λ _. made_view c.take.new.self) (λ _. made_view c.take.new.self) (made_view c.args.self.now) (made_view c.loop-found.self) all done (drop (length done + 1) all) c.in-Some.found cut c.loop-found.invariant c.in_err-take.field-0.0
    (λ body is. subst (ReadsTo (λ _. made_view c.take.new.self) (made_view c.loop-found.self) (body ∷ [])) c.in_err-take.was (c.take.ensures body is)) bodies are)
