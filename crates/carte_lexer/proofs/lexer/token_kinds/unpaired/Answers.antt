use Rattle.std.proofs.Common.{◌≡◌, false, IsUtf8}
use Rattle.carte_lexer.specs.Lexer.{unpaired}
use Rattle.carte_lexer.proofs.Unpaired.{unpaired_utf8}
use Rattle.carte_lexer.proofs.lexer.token_kinds.unpaired.Goals as goal

pub unreachable-requires : goal.unreachable-requires
unreachable-requires c =
    let e : c.in_ok-bytes.bytes.items ≡ unpaired false c.as_bytes.result.now = c.in_ok-bytes.ensures in
    let u : IsUtf8 c.in_ok-bytes.bytes.items = rw e (unpaired_utf8 c.as_bytes.result.now c.as_bytes.ensures.utf8) in
    let z = c.in-Err.ensures.succeeds u in
    cc
