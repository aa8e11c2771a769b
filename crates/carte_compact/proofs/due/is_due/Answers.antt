use Rattle.std.proofs.Common.{◌≡◌, ◌∙◌, false, sym}
use Rattle.std.specs.Prelude.{is_some}
use Rattle.std.proofs.lemmas.Result.{IfOk-weaker}
use Rattle.carte_compact.proofs.due.is_due.Goals as goal

pub returns-clause-due : goal.returns-clause-due
returns-clause-due c =
    let new : is_some c.args.state.now.one ≡ false = sym c.is_old.ensures ∙ c.if-is_old.false in
    IfOk-weaker c.is_asked.result _ _ (λ due told Bs live. rw new (told Bs live)) c.is_asked.ensures.due
