use Rattle.std.proofs.Common.{ap, ◌∙◌, length, length-take-le, arith}
use Rattle.carte_codec.proofs.Chunks.{chunk_ahead}
use Rattle.carte_codec.proofs.digest.DigestSpelled.read.Goals as goal

pub returns-in-Some : goal.returns-in-Some
returns-in-Some c =
    let parts = c.in-Some.ensures.cases in
    (ap length parts.0 ∙ length-take-le 32 c.args.bytes.now (omega (arith, parts.2)), chunk_ahead c.args.bytes.now c.in-Some.digest.now c.in-Some.rest.now 32 parts.0 parts.1)
