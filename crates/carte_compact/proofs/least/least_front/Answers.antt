use Rattle.std.proofs.Common.{◌≡◌, arith, length, rules}
use Rattle.std.specs.List.{flat_map}
use Rattle.carte_value.specs.Spelling.{spelling}
use Rattle.carte_codec.specs.Parts.{spelled_link}
use Rattle.carte_record.specs.Bodies.{spelled_entry}
use Rattle.carte_compact.proofs.Covered.{front_covered}
use Rattle.carte_compact.proofs.Sizes.{if_known}
use Rattle.carte_compact.proofs.least.least_front.Goals as goal

pub returns : goal.returns
returns c =
    let K = c.args.kept.now in
    let values : c.in_ok-values.values ≡ length (flat_map spelling K.values) = search rules in
    let links : c.in_ok-links.links ≡ length (flat_map spelled_link K.seen) = search rules in
    let entries : c.in_ok-entries.entries ≡ length (flat_map spelled_entry K.entries) = search rules in
    if_known c.sum_of.result _ _
    (λ n is names keys seen listed. front_covered K c.in_ok-values.values c.in_ok-links.links c.in_ok-entries.entries n values links (c.in_ok-links.ensures {u = tt}).once entries (c.in_ok-entries.ensures {u = tt}).once (omega (arith, is)) names keys seen listed)
    c.sum_of.ensures
