use Rattle.std.proofs.Common.{◌≡◌, ◌∙◌, ◌-◌, ◌≤◌, [], length, take, drop, ap, arith, length-drop, length-take}
use Rattle.std.proofs.lemmas.List.{take_all}
use Rattle.std.proofs.lemmas.Simd.{length-put_chunk}
use lib.Lanes.{put_chunk}
use Rattle.carte_name.specs.Fronts.{padded}
use Rattle.carte_name.proofs.Ends.{two_pieces, placed}
use Rattle.carte_name.proofs.front.by_ends.Goals as goal

pub returns : goal.returns
returns g c =
    let t = c.args.text.now in
    let n = g.row.N in
    let last = length t - n in
    let front = put_chunk 0 (padded 16 []) (take n t) in
    let long : length front ≡ 16 = length-put_chunk 0 (padded 16 []) (take n t) in
    let piece : take n (drop last t) ≡ drop last t = take_all n (drop last t) (omega (arith, length-drop last t)) in
    let room : length (take n (drop last t)) ≤ 16 - last = omega (arith, length-drop last t, ap length piece) in
    placed last (16 - last) front (take n (drop last t)) (omega arith) room ∙ ap (put_chunk last front) piece ∙ two_pieces last n t (omega arith)
