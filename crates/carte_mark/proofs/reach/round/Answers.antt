use Rattle.std.proofs.Common.{subst}
use Rattle.carte_mark.specs.Passes.{Passes}
use Rattle.carte_mark.proofs.Passing.{round_of, no_place}
use Rattle.carte_mark.proofs.reach.round.Goals as goal

pub returns : goal.returns
returns c =
    let K = c.args.kept.now in
    let old = c.args.names.now in
    let mid = c.pass.new.names in
    let new = c.pass-2.new.names in
    let end = c.in_ok-end.end in
    let more = c.in_ok-end-2.end in
    let first = subst (λ n. Passes K n end old mid) c.len.ensures.number (c.in_ok-end.ensures {u = tt}) in
    round_of K end more old mid new _ first (c.in_ok-end-2.ensures {u = tt}) (no_place more)
