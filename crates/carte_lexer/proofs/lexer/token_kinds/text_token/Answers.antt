use Rattle.std.proofs.Common.{◌<◌, arith, length, slice_index}
use Rattle.std.proofs.lemmas.Str.{IsCharBoundary-after_ascii}
use Rattle.carte_lexer.proofs.lexer.token_kinds.text_token.Goals as goal

pub range-requires-clause-start_boundary : goal.range-requires-clause-start_boundary
range-requires-clause-start_boundary c =
    let quote = c.requires.0 in
    let two = c.requires.1 in
    let some : 0 < length c.args.run.now = omega arith in
    let low : slice_index c.args.run.now 0 < 128 = rw quote (omega arith) in
    λ _. IsCharBoundary-after_ascii c.args.run.now 0 c.utf8.run some low
