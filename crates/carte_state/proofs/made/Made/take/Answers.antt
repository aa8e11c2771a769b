use Rattle.std.proofs.Common.{[], ◌∷◌, ◌∙◌, Err, ap, subst}
use Rattle.std.proofs.lemmas.Result.{err_from_is_err_and}
use Rattle.carte_state.specs.Folding.{IsFolded}
use Rattle.carte_state.specs.Parts.{ReadsTo, made_view}
use Rattle.carte_state.specs.declared.made.Made.{Made}
use Rattle.carte_state.proofs.Reading.{same_fault}
use Rattle.carte_state.proofs.made.Made.take.Goals as goal

pub returns : goal.returns
returns c body is =
    subst (λ (m : Made). IsFolded (made_view m) (body ∷ []) (made_view c.in_ok-self.field-0)) c.replace-before.ensures.value
    (subst (ReadsTo made_view (made_view c.replace-before.result) (body ∷ [])) c.in_ok-self.was (c.behind.ensures body is))

pub returns-in_err-self : goal.returns-in_err-self
returns-in_err-self c body is =
    let p = err_from_is_err_and c.from_residual.result c.from_residual.ensures.1 in
    rw (p.1 ∙ ap Err p.2)
    (same_fault {C = Unit {0}} made_view (λ (done : Unit {0}). made_view c.replace-before.new.dest) (made_view c.args.self.now) (body ∷ []) c.in_err-self.field-0.0
    (subst (λ (m : Made). ReadsTo made_view (made_view m) (body ∷ []) (Err c.in_err-self.field-0.0)) c.replace-before.ensures.value
    (subst (ReadsTo made_view (made_view c.replace-before.result) (body ∷ [])) c.in_err-self.was (c.behind.ensures body is))))
