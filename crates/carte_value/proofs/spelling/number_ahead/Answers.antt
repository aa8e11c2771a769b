use Rattle.std.proofs.Common.{arith}
use Rattle.carte_value.proofs.Bytes.{number_found}
use Rattle.carte_value.proofs.spelling.number_ahead.Goals as goal

pub returns-in-Some : goal.returns-in-Some
returns-in-Some c =
    let chunk = c.in-Some.ensures.cases in
    number_found c.args.bytes.now c.in-Some.number.now c.from_be_bytes.result (λ i. omega (arith, c.type_inv.bytes i)) chunk.enough chunk.same c.from_be_bytes.ensures
