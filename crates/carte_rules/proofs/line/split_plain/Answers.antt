use Rattle.std.proofs.Common.{arith, false}
use Rattle.std.proofs.lemmas.Bool.Decides.{nat_tests}
use Rattle.toml_parser.specs.Strings.{is_plain}
use Rattle.toml_parser.proofs.LexicalLemmas.{IsCharBoundary-wide_run}
use Rattle.carte_rules.proofs.line.split_plain.Goals as goal

pub split_at-requires : goal.split_at-requires
split_at-requires c =
    let short = c.requires in
    rw (c.plain_len.ensures.len, c.as_bytes.ensures.value) (IsCharBoundary-wide_run (is_plain c.args.delim false) c.args.s.now (λ b e. grind (arith, nat_tests)))
