use Rattle.std.proofs.Common.{◌≡◌, true, subst}
use Rattle.carte_name.specs.Names.{is_name}
use Rattle.carte_name.proofs.name.Name.text_is_name.Goals as goal

pub returns : goal.returns
returns c = subst (λ k. is_name k ≡ true) c.self.view_is c.self.invariant.is
