use Rattle.std.proofs.Common.{◌≡◌, ◌++◌, false, drop}
use Rattle.carte_lexer.specs.Lexer.{unpaired}
use Rattle.carte_lexer.proofs.lexer.token_kinds.unpaired_bytes.Given as goal

abbrev pub invariant-loop-byte : goal.invariant-loop-byte
invariant-loop-byte l = l.bytes.items ++ unpaired l.paired (drop l.byte-index l.raw) ≡ unpaired false l.fn.raw
