use Rattle.std.proofs.Common.{arith}
use Rattle.carte_codec.proofs.Chunks.{count_found}
use Rattle.carte_codec.proofs.count.read_count.Goals as goal

pub returns-in-Some : goal.returns-in-Some
returns-in-Some c =
    let parts = c.in-Some.ensures.cases in
    count_found c.args.bytes.now c.in-Some.count.now c.in-Some.rest.now c.from_be_bytes.result (λ i. omega (arith, c.type_inv.bytes i)) (omega (arith, parts.2)) parts.0 parts.1 c.from_be_bytes.ensures
