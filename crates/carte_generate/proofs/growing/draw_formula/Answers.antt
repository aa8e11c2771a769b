use Rattle.std.proofs.Common.{◌≡◌, ℕ, ◌-◌, ◌%◌, ap, ap₂, ◌∙◌}
use Rattle.carte_generate.specs.Draws.{next, drawn}
use Rattle.carte_generate.specs.Generated.{key, difference}
use Rattle.carte_generate.proofs.Formulas.{told, sure}
use Rattle.carte_generate.proofs.growing.draw_formula.Goals as goal

pub returns-clause-formula : goal.returns-clause-formula
returns-clause-formula c =
    let near : c.in_ok-near.near ≡ key (c.args.number - 1 - drawn c.args.draws.now.state % 8) =
    c.in_ok-near.ensures.key ∙ ap key (c.saturating_sub-near.ensures ∙ ap (λ (x : ℕ). c.args.number - 1 - x % 8) c.draw.ensures.value) in
    let far : c.in_ok-far.far ≡ key (drawn (next c.args.draws.now.state) % c.args.number) =
    c.in_ok-far.ensures.key ∙ ap (λ (x : ℕ). key (x % c.args.number)) (c.draw-2.ensures.value ∙ ap drawn c.draw.ensures.state) in
    told c.difference.result _ _ (ap₂ difference near far) c.difference.ensures.formula

pub returns-clause-state : goal.returns-clause-state
returns-clause-state c = sure c.difference.result (cc)
