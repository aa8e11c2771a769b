use Rattle.std.proofs.Common.{◌∙◌, arith, subst, sym, IsUtf8}
use Rattle.carte_value.proofs.Bytes.{text_found}
use Rattle.carte_value.proofs.spelling.text_ahead.Goals as goal

pub returns-in-Ok : goal.returns-in-Ok
returns-in-Ok c =
    let parts = c.in-Some.ensures.cases in
    let read = c.in-Ok.ensures.cases in
    text_found c.args.bytes.now c.in-Some.length.now c.in-Some.rest.now c.in-Ok.text.now c.from_be_bytes-length.result (λ i. omega (arith, c.type_inv.bytes i)) (omega (arith, parts.2)) parts.0 parts.1 c.from_be_bytes-length.ensures (omega arith) (omega arith) (read.0 ∙ c.split_at.ensures.front) (subst IsUtf8 (sym read.0) read.1)
