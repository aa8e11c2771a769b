use Rattle.std.proofs.Common.{◌∙◌}
use Rattle.carte_lexer.proofs.Ranging.{sign_taken}
use Rattle.carte_lexer.proofs.width.Ranges.take_sign.Goals as goal

pub returns-in_default : goal.returns-in_default
returns-in_default c = λ ps. sign_taken c.args.self.now c.args.place c.args.sign ps c.args.self.now.few c.in_default.not-Colon ∙ c.forget.ensures ps
