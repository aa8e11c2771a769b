use Rattle.std.proofs.Common.{◌∙◌}
use Rattle.carte_lexer.proofs.Ranging.{other_taken}
use Rattle.carte_lexer.proofs.width.Ranges.take.Goals as goal

pub returns-in_default-clause-taken : goal.returns-in_default-clause-taken
returns-in_default-clause-taken c = λ ps. other_taken c.args.self.now c.args.placed.now ps c.args.self.now.few c.in_default.not-Cell c.in_default.not-Colon ∙ c.forget.ensures ps
