use Rattle.std.proofs.Common.{[], ◌∷◌, subst, sym}
use Rattle.carte_state.specs.Parts.{ReadsTo, made_view}
use Rattle.carte_state.proofs.made.Made.take_before.Goals as goal

pub returns : goal.returns
returns c body is = subst (λ m. ReadsTo (λ _. m) (made_view c.args.self.now) (body ∷ []) c.take-taken.result) (sym c.widen.ensures) (c.take-taken.ensures body is)
