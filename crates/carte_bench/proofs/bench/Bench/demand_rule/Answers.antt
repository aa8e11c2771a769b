use Rattle.std.proofs.Common.{◌≡◌, None, refl, sym, ◌∙◌, subst, slice_get}
use Rattle.std.specs.Cmp.Lexicographic.{nat_list_eq_equiv}
use Rattle.indexmap.specs.IndexMap.{get}
use Rattle.carte_name.specs.Names.{name_eq}
use Rattle.carte_bench.specs.Held.{with_name}
use Rattle.carte_bench.proofs.Slots.{put_last}
use Rattle.carte_bench.proofs.bench.Bench.demand_rule.Goals as goal

pub returns-in-Ok-clause-place : goal.returns-in-Ok-clause-place
returns-in-Ok-clause-place g c =
    let old = c.args.self.now.slots in
    let new = c.insert.new.self in
    let key = c.in_ok-name.name in
    let at = c.len-at.result in
    let same : key ≡ g.J.Job.name c.args.job = c.in_ok-name.ensures {u = tt} ∙ c.key.ensures in
    let e = c.in-Ok.ensures in
    let place = put_last old new key _ at (subst (λ k. get name_eq old k ≡ None) (sym same) c.requires.unknown) c.len-at.ensures.len e.entries (rw (e.updates.0 key, nat_list_eq_equiv.refl key) refl) in
    subst (λ k. slice_get new.entries at ≡ with_name k (get name_eq new k)) same place
