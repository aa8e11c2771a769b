use Rattle.std.proofs.Common.{◌≡◌, true, false, [], ◌∷◌, ◌++◌, refl, ap, sym, ◌∙◌, inl, inr}
use Rattle.carte_mark.proofs.watch.push_changed.Goals as goal

pub returns-in_ok-push : goal.returns-in_ok-push
returns-in_ok-push c = inl ((c.in_ok-is_changed.ensures {u = tt}).0 c.if-is_changed.true, c.in_ok-push.ensures.items ∙ ap (λ k. c.args.names.now.items ++ k ∷ []) (c.in_ok-copy.ensures {u = tt}))

pub returns-else-is_changed : goal.returns-else-is_changed
returns-else-is_changed c = inr ((λ changed. let e : true ≡ false = sym ((c.in_ok-is_changed.ensures {u = tt}).1 changed) ∙ c.if-is_changed.false in cc), refl)
