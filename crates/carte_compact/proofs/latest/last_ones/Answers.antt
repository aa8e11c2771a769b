use Rattle.std.proofs.Common.{◌≡◌, map, reverse, ap, ◌∙◌}
use Rattle.std.proofs.lemmas.List.{reverse-reverse}
use Rattle.std.proofs.lemmas.Result.{IfOk-weaker}
use Rattle.carte_table.specs.Latest.{last_ones}
use Rattle.carte_compact.proofs.Backwards.{map_reverse}
use Rattle.carte_compact.proofs.latest.last_ones.Goals as goal

pub returns : goal.returns
returns g c =
    let last_of = last_ones g.T.Compared.alike in
    let found = c.in_ok-last.last.items in
    let turned = c.reverse.ensures.items in
    let whole : map (λ t. t.now) c.deref.result.now ≡ last_of c.args.traces.now =
    ap (map (λ t. t.now)) (c.deref.ensures.value ∙ turned) ∙ map_reverse (λ t. t.now) found ∙ ap reverse (c.in_ok-last.ensures {u = tt})
    ∙ reverse-reverse (last_of c.as_slice.result.now) ∙ ap last_of c.as_slice.ensures in
    IfOk-weaker c.copied.result _ _ (λ list is. is ∙ whole) c.copied.ensures
