use Rattle.std.proofs.Common.{ℕ, List, sym, ◌∙◌, subst}
use Rattle.carte_value.specs.Lists.{Has}
use Rattle.carte_session.proofs.Staying.{has_at}
use Rattle.carte_session.proofs.known.Known.reply_to.Goals as goal

pub returns-in-Some : goal.returns-in-Some
returns-in-Some c =
    let a : List ℕ × List ℕ = (c.args.line.now, c.in-Some.reply.now) in
    subst (λ items. Has items a) c.deref-answered-items.ensures.value
    (has_at c.deref-answered-items.result.now c.loop-answered.answered-index a c.answered-item.result c.loop-answered-test.true (sym (c.in-Some.ensures {u = tt}) ∙ c.answered-item.is))
