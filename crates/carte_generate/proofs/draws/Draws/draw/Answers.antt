use Rattle.std.proofs.Common.{ℕ, ◌*◌, ◌/◌, ◌^◌, ap}
use Rattle.std.proofs.Math.Nat.{mod-add-mod}
use Rattle.carte_generate.specs.Draws.{next}
use Rattle.carte_generate.proofs.draws.Draws.draw.Goals as goal

pub returns-clause-value : goal.returns-clause-value
unfolding next
returns-clause-value c = ap (λ (x : ℕ). x / 2 ^ 33) (mod-add-mod (c.args.self.now.state * 6364136223846793005) (2 ^ 64) 1442695040888963407)

pub returns-clause-state : goal.returns-clause-state
unfolding next
returns-clause-state c = mod-add-mod (c.args.self.now.state * 6364136223846793005) (2 ^ 64) 1442695040888963407
