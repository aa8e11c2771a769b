use Rattle.std.proofs.Common.{Some, None, ap, ◌∙◌}
use Rattle.carte_value.specs.declared.digest.Digest.{Digest}
use Rattle.carte_book.specs.declared.book.Item.TheVariants.{Input as InputItem, Rule as RuleItem}
use Rattle.carte_book.proofs.Placed.{task_there}
use Rattle.carte_book.proofs.book.Book.task_digest_at.Goals as goal

pub returns-in_ok-digest-in-Some-default-Rule : goal.returns-in_ok-digest-in-Some-default-Rule
returns-in_ok-digest-in-Some-default-Rule c =
    let it = c.in-Some-default-Rule in
    ap (λ (d : Digest). Some d) (c.in_ok-digest-in-Some-default-Rule.ensures {u = tt})
    ∙ task_there c.args.self.now.kind c.args.self.now.items.entries c.args.at (Some (it.field-0-0.now, RuleItem it.rule)) (cc (it.ensures.entry))

pub returns-in-Some-default-Input : goal.returns-in-Some-default-Input
returns-in-Some-default-Input c =
    let it = c.in-Some-default-Input in
    task_there c.args.self.now.kind c.args.self.now.items.entries c.args.at (Some (it.field-0-0.now, InputItem it.field-0-1-0)) (cc (it.ensures.entry))

pub returns-in-None : goal.returns-in-None
returns-in-None c = task_there c.args.self.now.kind c.args.self.now.items.entries c.args.at None (cc (c.in-None.ensures.entry))
