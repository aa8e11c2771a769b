use Rattle.std.proofs.Common.{◌≡◌, ◌∙◌}
use Rattle.carte_effect.proofs.Pairs.{paired_end}
use Rattle.carte_effect.proofs.tracked.TrackedEffect.fetch.Goals as goal

pub returns-clause-logged : goal.returns-clause-logged
returns-clause-logged g c =
    let p = paired_end c.args.self.now.names c.args.self.now.values c.in_ok-listed.listed c.in_ok-copy.copy c.args.self.now.same in
    let named : c.in_ok-listed.listed ≡ c.args.name.now = c.in_ok-listed.ensures {u = tt} in
    let valued : c.in_ok-copy.copy ≡ c.in-Ok.value = c.in_ok-copy.ensures {u = tt} ∙ c.value-2.ensures in
    let both = c.in_ok-list.ensures {u = tt} in
    rw (both.0, both.1, p, named, valued)
