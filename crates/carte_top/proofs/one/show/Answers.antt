use Rattle.std.proofs.Common.{ℕ, ◌++◌, List, refl, inl, inr, subst, ap₂, ◌∙◌}
use Rattle.carte_top.specs.Around.{over_sink}
use Rattle.carte_top.specs.Running.{Prints}
use Rattle.carte_top.proofs.one.show.Goals as goal

pub returns-in-Some : goal.returns-in-Some
returns-in-Some g c = inl (c.in-Some.reason, c.in-Some.is, refl, (refl, refl, refl))

pub returns : goal.returns
returns g c =
    let k = over_sink g.O.Sink.tells g.O.Sink.state c.args.out.now c.print.new.out in
    inr (c.in-None.is, subst (λ (bytes : List ℕ). Prints bytes k c.print.result) (ap₂ ◌++◌ c.as_bytes.ensures.value (c.as_bytes-in-None.ensures.value ∙ c.as_str.ensures.value)) c.print.ensures)
