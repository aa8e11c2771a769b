use Rattle.std.proofs.Common.{◌≡◌, length, map, reverse, ap, ◌∙◌}
use Rattle.carte_codec.specs.Parts.{spelled_list}
use Rattle.carte_table.specs.Latest.{last_ones}
use Rattle.carte_compact.proofs.Sizes.{if_there, last_long, refs_long}
use Rattle.carte_compact.proofs.lengths.traces_length.Goals as goal

pub returns : goal.returns
returns g c =
    let spelled = g.T.Measured.spelled in
    let last = c.in_ok-last.last.items in
    let ts = last_ones g.T.Compared.alike c.args.traces.now in
    let turned = (c.in_ok-last.ensures {u = tt}) ∙ ap (λ us. reverse (last_ones g.T.Compared.alike us)) c.as_slice.ensures in
    let long : length (spelled_list (λ r. spelled r.now) c.as_slice-2.result.now) ≡ length (spelled_list spelled ts) =
    ap (λ rs. length (spelled_list (λ r. spelled r.now) rs)) c.as_slice-2.ensures.value ∙ refs_long spelled (λ r. r.now) last ∙ last_long spelled (map (λ r. r.now) last) ts turned
    in rw c.ok_or.ensures.value (if_there c.list_length.result _ _ _ (λ n is. is ∙ long) c.list_length.ensures)
