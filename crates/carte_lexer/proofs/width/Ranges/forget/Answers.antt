use Rattle.std.proofs.Common.{◌++◌, sym, ap}
use Rattle.carte_lexer.specs.Ranges.{begun_tokens, wide_behind}
use Rattle.carte_lexer.proofs.width.Ranges.forget.Goals as goal

pub returns-in-Nothing : goal.returns-in-Nothing
returns-in-Nothing c = λ ps. sym (ap (λ b. wide_behind c.args.self.now (begun_tokens b ++ ps)) c.in-Nothing.is)
