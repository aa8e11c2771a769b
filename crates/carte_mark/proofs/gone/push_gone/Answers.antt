use Rattle.std.proofs.Common.{◌≡◌, true, false, [], ◌∷◌, ◌++◌, refl, ap, sym, ◌∙◌, inl, inr}
use Rattle.carte_mark.proofs.gone.push_gone.Goals as goal

pub returns-in_ok-push : goal.returns-in_ok-push
returns-in_ok-push c = inl (c.is_gone.ensures.0 c.if-is_gone.true, c.in_ok-push.ensures.items ∙ ap (λ k. c.args.gone.now.items ++ k ∷ []) (c.in_ok-copy.ensures {u = tt}))

pub returns-else-is_gone : goal.returns-else-is_gone
returns-else-is_gone c = inr ((λ gone. let e : true ≡ false = sym (c.is_gone.ensures.1 gone) ∙ c.if-is_gone.false in cc), refl)
